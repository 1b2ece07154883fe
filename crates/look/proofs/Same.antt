-- What the look gives is one: its numbers of the manual tell which. Assumes nothing.
use mathlib.Core.Path.{◌≡◌, refl, sym, ap, ◌∙◌}
use mathlib.Core.Bool.{true, false}
use lib.Dec.{eqb}
use Rattle.std.specs.Prelude.{Result, Ok, Err}
use Rattle.look.specs.declared.Spot.{Spot}
use Rattle.look.specs.declared.Token.{Token}
use Rattle.look.specs.declared.ParseError.{ParseError}
use Rattle.look.specs.declared.ParseError.TheVariants.{NoTerminal, Unexpected, NoGroup, Stuck, TreeFull, StackFull, AllowanceUsedUp}
use Rattle.look.specs.declared.Next.{Next}
use Rattle.look.specs.Look.{Looked}
use Rattle.look.specs.Next.{looked_at, looked_of}

-- From the numbers back.
abbrev back : Looked → Result Token ParseError
back l =
    elim (eqb l.code 0) [
      | true ↦ Ok (record { terminal = l.terminal; length = l.length })
      | false ↦ elim (eqb l.code 7) [
        | true ↦ Err NoTerminal
        | false ↦ elim (eqb l.code 8) [
          | true ↦ Err (Unexpected l.length l.terminal)
          | false ↦ elim (eqb l.code 9) [
            | true ↦ Err (NoGroup l.length)
            | false ↦ elim (eqb l.code 10) [
              | true ↦ Err Stuck
              | false ↦ elim (eqb l.code 11) [
                | true ↦ Err TreeFull
                | false ↦ elim (eqb l.code 12) [ true ↦ Err StackFull | false ↦ Err AllowanceUsedUp ]
              ]
            ]
          ]
        ]
      ]
    ]

back_lem : (r : Result Token ParseError) (at : Spot) → back (looked_at r at) ≡ r
back_lem (Ok token) at = refl
back_lem (Err NoTerminal) at = refl
back_lem (Err (Unexpected size terminal)) at = refl
back_lem (Err (NoGroup size)) at = refl
back_lem (Err Stuck) at = refl
back_lem (Err TreeFull) at = refl
back_lem (Err StackFull) at = refl
back_lem (Err AllowanceUsedUp) at = refl

at_lem : (r : Result Token ParseError) (at : Spot) → (looked_at r at).at ≡ at
at_lem (Ok token) at = refl
at_lem (Err e) at = refl

next_of : (a b : Result Token ParseError) (p q : Spot) → a ≡ b → p ≡ q → ◌≡◌ {A = Next} (record { found = a; at = p }) (record { found = b; at = q })
next_of a b p q e f = cc

pub one_next : (a b : Next) → looked_of a ≡ looked_of b → a ≡ b
one_next a b e =
    next_of a.found b.found a.at b.at
    (sym (back_lem a.found a.at) ∙ ap back e ∙ back_lem b.found b.at)
    (sym (at_lem a.found a.at) ∙ ap (λ (l : Looked). l.at) e ∙ at_lem b.found b.at)
