-- Printouts, computed: the manual's example, bytes that are escaped, and each refusal by its least input. Assumes nothing.
use mathlib.Core.Path.{◌≡◌, refl}
use mathlib.Core.List.{List, [], ◌∷◌}
use Prim.Native.Nat.{ℕ}
use Rattle.numbers.specs.Front.{refuse, deliver}
use Rattle.text.specs.Bytes.{bytes}
use Rattle.text.specs.Decimal.{decimal_in, decimal}
use Rattle.parse.specs.Leaf.{leaf_part, leaf_bytes}
use Rattle.print.specs.Print.{depth, special, escaped_byte, escaped, show, take_off, one_more, standing, not_one_tree, print_tree, print_one, print}

-- The records of "tax by day".
abbrev tax_by_day : List ℕ
tax_by_day = 2 ∷ 0 ∷ 3 ∷ 0 ∷ 1 ∷ 4 ∷ 2 ∷ 1 ∷ 2 ∷ 7 ∷ 3 ∷ 2 ∷ 64 ∷ 1 ∷ 3 ∷ 0 ∷ []

pub tax_by_day_printed : (print (bytes "tax by day") tax_by_day 26).written ≡ bytes "(1 2:[tax] 1:[by] 2:[day])"
unfolding deliver decimal_in decimal leaf_part leaf_bytes depth special escaped_byte escaped show take_off one_more standing print_tree print_one print
tax_by_day_printed = refl

pub one_byte_short : print (bytes "tax by day") tax_by_day 25 ≡ refuse 3 26
unfolding deliver decimal_in decimal leaf_part leaf_bytes depth special escaped_byte escaped show take_off one_more standing print_tree print_one print
one_byte_short = refl

-- A leaf of the bytes 91, 92 and 93 is printed with a backslash before each.
pub brackets_printed : (print (91 ∷ 92 ∷ 93 ∷ []) (7 ∷ 0 ∷ 3 ∷ 0 ∷ []) 10).written ≡ 55 ∷ 58 ∷ 91 ∷ 92 ∷ 91 ∷ 92 ∷ 92 ∷ 92 ∷ 93 ∷ 93 ∷ []
unfolding deliver decimal_in decimal leaf_part leaf_bytes depth special escaped_byte escaped show take_off one_more standing print_tree print_one print
brackets_printed = refl

pub no_words_refused : (text : List ℕ) (room : ℕ) → print text [] room ≡ refuse not_one_tree 0
unfolding standing print_one print
no_words_refused text room = refl
