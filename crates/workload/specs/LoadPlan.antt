-- The script of a workload: which frame stands on which connection, how the bytes are cut into pieces, and the order of the lines.
use Rattle.std.specs.Prelude.{ℕ, ◌+◌, ◌*◌, ◌/◌, ◌%◌, ◌==◌, nat_lt, min, max, List, [], ◌∷◌, ◌++◌, length, map, filter, take, drop, slice_index_or, replicate, if◌then◌else◌}
use Rattle.std.specs.List.{flat_map}
use Rattle.script_model.specs.ScriptLines.{PlanLine, opening, piece, input_end, ScriptPlan, count_up}
use Rattle.workload.specs.CallFrames.{frame_at}

-- the number of connections of a workload of so many frames
abbrev pub connections_of : ℕ → ℕ
connections_of size = min 8 size

-- the frames that stand on connection c of n, among so many
abbrev pub frames_on : ℕ → ℕ → ℕ → List ℕ
frames_on n c size = filter (λ k. k % n == c) (count_up 0 size)

-- the bytes of connection c of n: its frames, one behind the other
abbrev pub bytes_on : ℕ → ℕ → ℕ → ℕ → List ℕ
bytes_on seed size n c = flat_map (frame_at seed) (frames_on n c size)

-- the bytes of each connection
abbrev pub all_bytes : ℕ → ℕ → List (List ℕ)
all_bytes seed size = map (bytes_on seed size (connections_of size)) (count_up 0 (connections_of size))

-- how many bytes a piece has; the last one of a connection may have fewer
abbrev pub piece_size : ℕ
piece_size = 61

-- how many pieces these bytes are cut into
abbrev pub pieces_of : List ℕ → ℕ
pieces_of bytes = (length bytes + 60) / piece_size

-- the most pieces that any of these connections has
abbrev pub most_pieces : List (List ℕ) → ℕ
most_pieces [] = 0
most_pieces (bytes ∷ more) = max (pieces_of bytes) (most_pieces more)

-- piece number i of these bytes
abbrev pub piece_at : ℕ → List ℕ → List ℕ
piece_at i bytes = take piece_size (drop (piece_size * i) bytes)

-- piece number i of connection c, which has these bytes; nothing where it has fewer pieces
abbrev pub piece_line : ℕ → ℕ → List ℕ → List PlanLine
piece_line i c bytes = if nat_lt (piece_size * i) (length bytes) then piece c (piece_at i bytes) ∷ [] else []

-- piece number i of each connection, by rising number
abbrev pub round : List (List ℕ) → ℕ → List PlanLine
round streams i = flat_map (λ c. piece_line i c (slice_index_or streams c [])) (count_up 0 (length streams))

-- all pieces: the first of each connection, then the second of each, and so on
abbrev pub rounds : List (List ℕ) → List PlanLine
rounds streams = flat_map (round streams) (count_up 0 (most_pieces streams))

-- The script of connections that have these bytes: all are opened, the pieces arrive, and then all inputs end. No write has a rule.
abbrev pub plan_of_streams : List (List ℕ) → ScriptPlan
plan_of_streams streams = record {
  lines = replicate (length streams) opening ++ (rounds streams ++ map input_end (count_up 0 (length streams)));
  rules = replicate (length streams) [];
}

-- the script of the workload of a seed, with so many frames
abbrev pub workload_plan : ℕ → ℕ → ScriptPlan
workload_plan seed size = plan_of_streams (all_bytes seed size)
