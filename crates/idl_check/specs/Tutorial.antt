-- The tutorial's files that the program holds: tutorial.thrift and shared.thrift of Apache Thrift without their comments.
use Rattle.std.specs.Prelude.{ℕ, List, [], ◌∷◌, codes}
use Rattle.std.specs.List.{flat_map}
use Rattle.text_out.specs.Line.{line_of}
use Rattle.streams.specs.Files.{File}

-- tutorial.thrift
abbrev pub tutorial_file_lines : List (List ℕ)
tutorial_file_lines =
    codes "include \"shared.thrift\"" ∷
    codes "namespace cpp tutorial" ∷
    codes "namespace java tutorial" ∷
    codes "typedef i32 MyInteger" ∷
    codes "const i32 INT32CONSTANT = 9853" ∷
    codes "const map<string,string> MAPCONSTANT = {'hello':'world', 'goodnight':'moon'}" ∷
    codes "enum Operation {" ∷
    codes "  ADD = 1," ∷
    codes "  SUBTRACT = 2," ∷
    codes "  MULTIPLY = 3," ∷
    codes "  DIVIDE = 4" ∷
    codes "}" ∷
    codes "struct Work {" ∷
    codes "  1: i32 num1 = 0," ∷
    codes "  2: i32 num2," ∷
    codes "  3: Operation op," ∷
    codes "  4: optional string comment," ∷
    codes "}" ∷
    codes "exception InvalidOperation {" ∷
    codes "  1: i32 whatOp," ∷
    codes "  2: string why" ∷
    codes "}" ∷
    codes "service Calculator extends shared.SharedService {" ∷
    codes "   void ping()," ∷
    codes "   i32 add(1:i32 num1, 2:i32 num2)," ∷
    codes "   i32 calculate(1:i32 logid, 2:Work w) throws (1:InvalidOperation ouch)," ∷
    codes "   oneway void zip()" ∷
    codes "}" ∷
    []

unfoldable pub tutorial_file_text : List ℕ
tutorial_file_text = flat_map line_of tutorial_file_lines

-- shared.thrift
abbrev pub shared_lines : List (List ℕ)
shared_lines =
    codes "namespace cpp shared" ∷
    codes "namespace java shared" ∷
    codes "struct SharedStruct {" ∷
    codes "  1: i32 key" ∷
    codes "  2: string value" ∷
    codes "}" ∷
    codes "service SharedService {" ∷
    codes "  SharedStruct getStruct(1: i32 key)" ∷
    codes "}" ∷
    []

unfoldable pub shared_text : List ℕ
shared_text = flat_map line_of shared_lines

-- the name of the main file
abbrev pub tutorial_name : List ℕ
tutorial_name = codes "tutorial.thrift"

-- The two files.
abbrev pub tutorial_files : List File
tutorial_files = record { name = tutorial_name; bytes = tutorial_file_text } ∷ record { name = codes "shared.thrift"; bytes = shared_text } ∷ []
