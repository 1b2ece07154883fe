-- The result of each entry point is unique, lent memory included: two that meet its contract are the same. A contract has the form "the
-- result, and the lent memory at exit, are these functions of what was given", which is all that is used. Assumes nothing.
use mathlib.Core.Path.{◌≡◌, sym, ◌∙◌}
use mathlib.Core.List.{List}
use Prim.Native.Nat.{ℕ}
use Rattle.std.specs.Prelude.{Result}
use Rattle.numbers.specs.Front.{buffer_after}
use Rattle.numbers.specs.declared.Answer.{Answer}
use Rattle.numbers.specs.Verdicts.{Verdict, verdict_of}
use Rattle.numbers.specs.declared.WrongWord.{WrongWord}
use Rattle.numbers.proofs.Laws.{same_verdict}
use Rattle.shape.specs.Shape.{shape}
use Rattle.conditions.specs.declared.Checked.{Checked}
use Rattle.conditions.specs.Check.{check}
use Rattle.scan.specs.declared.Scanned.{Scanned}
use Rattle.scan.specs.Scan.{scan_alone}
use Rattle.text.specs.declared.Form.{Form}
use Rattle.text.specs.Reader.{read}
use Rattle.text.specs.Reform.{reform}
use Rattle.text.specs.Writer.{write}
use Rattle.records.specs.declared.Parsed.{Parsed}
use Rattle.parse.specs.Parse.{parse, tree_after}
use Rattle.parse.specs.Leaf.{leaf_bytes}

-- One result; and one with the memory that it leaves.
pub unique : {A : Type 0} {r s w : A} → r ≡ w → s ≡ w → r ≡ s
unique p q = p ∙ sym q

pub unique_lent : {A : Type 0} {r s w : A} {m n l : List ℕ} → (r ≡ w) × (m ≡ l) → (s ≡ w) × (n ≡ l) → (r ≡ s) × (m ≡ n)
unique_lent p q = (unique p.0 q.0, unique p.1 q.1)

module _ (img text : List ℕ) where
  pub one_shape : {r s : Verdict} → r ≡ shape img → s ≡ shape img → r ≡ s
  one_shape = unique

  pub one_shape_result : {r s : Result (Unit {0}) WrongWord} → verdict_of r ≡ shape img → verdict_of s ≡ shape img → r ≡ s
  one_shape_result p q = same_verdict _ _ (unique p q)

  pub one_check : {r s : Checked} → r ≡ check img → s ≡ check img → r ≡ s
  one_check = unique

  pub one_scan : (start set allowance : ℕ) {r s : Scanned} → r ≡ scan_alone img text start set allowance → s ≡ scan_alone img text start set allowance → r ≡ s
  one_scan start set allowance = unique

  pub one_reading : (buffer : List ℕ) {r s : Answer} {m n : List ℕ} → (r ≡ (read text buffer).answer) × (m ≡ buffer_after buffer (read text buffer))
      → (s ≡ (read text buffer).answer) × (n ≡ buffer_after buffer (read text buffer)) → (r ≡ s) × (m ≡ n)
  one_reading buffer = unique_lent

  pub one_writing : (form : Form) (buffer : List ℕ) {r s : Answer} {m n : List ℕ} → (r ≡ (write form img buffer).answer) × (m ≡ buffer_after buffer (write form img buffer))
      → (s ≡ (write form img buffer).answer) × (n ≡ buffer_after buffer (write form img buffer)) → (r ≡ s) × (m ≡ n)
  one_writing form buffer = unique_lent

  pub one_move : (from to : Form) (buffer : List ℕ) {r s : Answer} {m n : List ℕ}
      → (r ≡ (reform from to text buffer).answer) × (m ≡ buffer_after buffer (reform from to text buffer))
      → (s ≡ (reform from to text buffer).answer) × (n ≡ buffer_after buffer (reform from to text buffer)) → (r ≡ s) × (m ≡ n)
  one_move from to buffer = unique_lent

  pub one_parse : (tree : List ℕ) (allowance : ℕ) {r s : Parsed} {m n : List ℕ}
      → (r ≡ (parse img text tree allowance).parsed) × (m ≡ tree_after tree (parse img text tree allowance))
      → (s ≡ (parse img text tree allowance).parsed) × (n ≡ tree_after tree (parse img text tree allowance)) → (r ≡ s) × (m ≡ n)
  one_parse tree allowance = unique_lent

  pub one_leaf : (terminal start size state : ℕ) {r s : List ℕ} → r ≡ leaf_bytes text terminal start size state → s ≡ leaf_bytes text terminal start size state → r ≡ s
  one_leaf terminal start size state = unique
