-- The first line tells the form, over plain variables.
use mathlib.Core.Path.{◌≡◌}
use mathlib.Core.List.{List, []}
use Prim.Native.Nat.{ℕ}
use Rattle.text.specs.declared.Form.TheVariants.{One, Two}
use Rattle.text.specs.Form.{pack_line}
use Rattle.text.specs.Reader.{expect, form_of}
use Rattle.fields.specs.Steps.{IsWrong, Reads}

pub form_one : (text : List ℕ) → IsWrong (expect (pack_line Two)) text → One ≡ form_of text
unfolding form_of
form_one text q = simp (form_of, q.line [])

pub form_two : (text rest : List ℕ) → Reads (expect (pack_line Two)) text [] rest → Two ≡ form_of text
unfolding form_of
form_two text rest q = simp (form_of, q.line [])
