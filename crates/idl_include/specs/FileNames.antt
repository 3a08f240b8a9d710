-- Names of files: how an include's name is made of the including file's name and the literal, and what a file's base name is.
use Rattle.std.specs.Prelude.{ℕ, ◌==◌, ◌||◌, Bool, false, List, [], ◌∷◌, ◌++◌, reverse, take, length, ◌-◌, codes, nat_eq, if◌then◌else◌}
use Rattle.std.specs.Str.{bytes_eq}
use Rattle.idl_token.specs.Bytes as byte
use Rattle.std.specs.List.{after_last, slice_split, ends_with, join_with_byte}

-- the byte is `/`
abbrev pub is_slash : ℕ → Bool
is_slash b = b == byte.slash

-- a file's last segment: what stands behind the last `/`
abbrev pub last_segment : List ℕ → List ℕ
last_segment name = after_last is_slash name

-- a file's folder: its name up to the last `/`, which is included
abbrev pub folder_of : List ℕ → List ℕ
folder_of name = take (length name - length (last_segment name)) name

-- a name without `.thrift` at its end
abbrev pub without_suffix : List ℕ → List ℕ
without_suffix name = if ends_with nat_eq name (codes ".thrift") then take (length name - 7) name else name

-- a file's base name: its last segment without `.thrift`
unfoldable pub base_name : List ℕ → List ℕ
base_name name = without_suffix (last_segment name)

-- the segment stands for the folder above
abbrev pub is_upward : List ℕ → Bool
is_upward segment = bytes_eq segment (codes "..")

-- a segment behind others, the last of which stands first here: `..` takes out one that is neither empty nor `..`
abbrev pub with_upward : List (List ℕ) → List ℕ → List (List ℕ)
with_upward [] segment = segment ∷ []
with_upward (last ∷ before) segment = if bytes_eq last [] || is_upward last then segment ∷ last ∷ before else before

-- a segment behind others, the last of which stands first here: `.` is dropped
abbrev pub with_segment : List (List ℕ) → List ℕ → List (List ℕ)
with_segment before segment =
    if bytes_eq segment (codes ".") then before
    else if is_upward segment then with_upward before segment
    else segment ∷ before

-- segments behind others, the last of which stands first here
abbrev pub with_segments : List (List ℕ) → List (List ℕ) → List (List ℕ)
with_segments before [] = before
with_segments before (segment ∷ more) = with_segments (with_segment before segment) more

-- a name without `.` segments and without pairs `x/..`
unfoldable pub cleaned : List ℕ → List ℕ
cleaned name = join_with_byte byte.slash (reverse (with_segments [] (slice_split is_slash name)))

-- the name begins with `/`
abbrev pub is_absolute : List ℕ → Bool
is_absolute [] = false
is_absolute (b ∷ name) = is_slash b

-- the name of the file that a literal means in a file of this name
unfoldable pub included_name : List ℕ → List ℕ → List ℕ
included_name file literal = if is_absolute literal then literal else cleaned (folder_of file ++ literal)
