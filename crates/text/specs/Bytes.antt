-- Manual, section 1.2: a quoted text as the list of its characters' codes. The names of lines, packs and queries are written so.
use Rattle.std.specs.Prelude.{List, [], ◌∷◌, ℕ, zero, suc, ◌+◌}
use Prim.Native.Char.{code}
use Prim.Native.String.{String, len, char_at}

abbrev pub bytes_from : String → ℕ → ℕ → List ℕ
bytes_from text zero i = []
bytes_from text (suc n) i = code (char_at text i) ∷ bytes_from text n (i + 1)

abbrev pub bytes : String → List ℕ
bytes text = bytes_from text (len text) 0
