use Rattle.std.proofs.Common.{◌≡◌, map, drop, string_bytes}
use Rattle.streams.specs.Files.{content_of}
use Rattle.streams.proofs.mem_files.MemFiles.find.Given as goal

-- what is looked for is looked for in the files that are left
abbrev pub invariant-files : goal.invariant-files
invariant-files l =
    content_of l.self.files l.name ≡ content_of (map (λ file. record { name = string_bytes file.0; bytes = file.1.items }) (drop l.held-index l.held-items)) l.name
