-- The definitions' numbers for what the code of the look gives: what a scan found, and what is found next.
use Rattle.std.specs.Prelude.{true, false, Option, Result, Ok, Err}
use Rattle.scan.specs.declared.Matched.{Matched}
use Rattle.scan.specs.declared.UsedUp.{UsedUp}
use Rattle.scan.specs.Found.{kept_of}
use Rattle.look.specs.declared.Spot.{Spot}
use Rattle.look.specs.declared.Token.{Token}
use Rattle.look.specs.declared.ParseError.{ParseError}
use Rattle.look.specs.declared.Next.{Next}
use Rattle.look.specs.Errors.{error_code, error_length, error_terminal}
use Rattle.look.specs.Look.{Sought, Looked, refused, found}

abbrev pub sought_of : Result (Option Matched) UsedUp → Spot → Sought
sought_of (Ok kept) at = record { spent = false; set = (kept_of kept).set; length = (kept_of kept).length; at = at }
sought_of (Err e) at = record { spent = true; set = 0; length = 0; at = at }

abbrev pub looked_at : Result Token ParseError → Spot → Looked
looked_at (Ok token) at = found token.length token.terminal at
looked_at (Err e) at = refused (error_code e) (error_length e) (error_terminal e) at

abbrev pub looked_of : Next → Looked
looked_of next = looked_at next.found next.at
