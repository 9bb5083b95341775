-- The whole check against what it accepts, and against the first fault.
use Rattle.std.proofs.Common.{◌≡◌, ℕ, true, cond, List, is_ok, Ok, Err, Result, sym, refl, ap, ◌∙◌}
use Rattle.packed.specs.declared.fault.Fault.{Fault}
use Rattle.table.specs.declared.section.Layout.{Layout}
use Rattle.table.specs.declared.table.Table.{Table}
use Rattle.table.specs.Formed.{Formed}
use Rattle.table.specs.Sections.{onward}
use Rattle.table.specs.Table.{table_of, told}
use Rattle.table.specs.Tabled.{bytes_of, built_in}
use Rattle.table.proofs.Forming.{formed, formed-on}
use Rattle.table.proofs.Firsting as firsting
use Rattle.table.proofs.Refusing as refusing
use Rattle.table.proofs.Tabling.{table-read}
use Rattle.checker.specs.Conditions.{Program}
use Rattle.checker.specs.Verdict.{verdict_of}
use Rattle.checker.specs.Checking.{program_in, check_of, Accepted, FirstFault, reading, typing}
use Rattle.checker.proofs.Typing.{verdict-typed, typed-verdict}
use Rattle.checker.specs.Laws.{RuleNamed}
use Rattle.checker.proofs.Firsts.{verdict-broken, broken-verdict}
use Rattle.checker.proofs.Orderly.{rule-named}

-- the answer, as it was come to
pub check-refused : (bs : List ℕ) (f : Fault) → Err f ≡ told (table_of bs) → Err f ≡ check_of bs
check-refused bs f e = split (table_of bs) e
  where
    split : (r : Result Layout Fault) → Err f ≡ told r → Err f ≡ onward r (λ l. verdict_of (program_in bs l))
    split (Ok l) e = cc
    split (Err g) e = let same : f ≡ g = cc in ap Err same

pub check-judged : (bs : List ℕ) (t : Table) (P : Program) (r : Result (Unit {0}) Fault) → bytes_of t ≡ bs → P ≡ program_in (bytes_of t) t.layout → r ≡ verdict_of P → r ≡ check_of bs
check-judged bs t P r same is e =
    e
    ∙ ap verdict_of is
    ∙ ap (λ s. onward s (λ l. verdict_of (program_in (bytes_of t) l))) (sym (table-read t))
    ∙ ap check_of same

module _ (bs : List ℕ) (r : Result (Unit {0}) Fault) (is : r ≡ check_of bs) where
  pub exactly : (r ≡ Ok tt → Accepted bs) × (Accepted bs → r ≡ Ok tt)
  exactly = (λ e. accepted (table_of bs) refl (sym is ∙ e), λ a. is ∙ granted a)
    where
      accepted : (s : Result Layout Fault) → table_of bs ≡ s → onward s (λ l. verdict_of (program_in bs l)) ≡ Ok tt → Accepted bs
      accepted (Ok l) t v = record { layout = l; formed = formed bs l t; typed = verdict-typed (program_in bs l) v }
      accepted (Err f) t v = cc

      granted : Accepted bs → check_of bs ≡ Ok tt
      granted a = ap (λ s. onward s (λ l. verdict_of (program_in bs l))) (formed-on bs a.layout a.formed) ∙ typed-verdict (program_in bs a.layout) a.typed

  pub first : ((f : Fault) → r ≡ Err f → FirstFault bs f) × ((f : Fault) → FirstFault bs f → r ≡ Err f)
  first = (λ f e. fault f (table_of bs) refl (sym is ∙ e), λ f w. is ∙ named f w)
    where
      fault : (f : Fault) (s : Result Layout Fault) → table_of bs ≡ s → onward s (λ l. verdict_of (program_in bs l)) ≡ Err f → FirstFault bs f
      fault f (Ok l) t v = typing (formed bs l t) (verdict-broken (program_in bs l) f v)
      fault f (Err g) t v = let same : g ≡ f = cc in reading (firsting.first bs f (t ∙ ap Err same))

      named : (f : Fault) → FirstFault bs f → check_of bs ≡ Err f
      named f (reading w) = ap (λ s. onward s (λ l. verdict_of (program_in bs l))) (refusing.refused bs f w)
      named f (typing {l = l} form w) = ap (λ s. onward s (λ l. verdict_of (program_in bs l))) (formed-on bs l form) ∙ broken-verdict (program_in bs l) f w

  -- the fault of a table is one of the typing rules'
  pub ruled : (f : Fault) (l : Layout) → r ≡ Err f → Formed bs l → RuleNamed bs l f
  ruled f l e form = rule-named bs l form f (verdict-broken (program_in bs l) f (ap (λ s. onward s (λ l. verdict_of (program_in bs l))) (sym (formed-on bs l form)) ∙ sym is ∙ e))

-- the built-in program is accepted
pub built-in-fine : (bs : List ℕ) → bs ≡ built_in → is_ok (check_of bs) ≡ true
built-in-fine bs e = ap (λ b. is_ok (check_of b)) e

ok-accepted : (r : Result (Unit {0}) Fault) → is_ok r ≡ true → r ≡ Ok tt
ok-accepted (Ok tt) e = refl
ok-accepted (Err f) e = cc

pub fine-accepted : (bs : List ℕ) → is_ok (check_of bs) ≡ true → Accepted bs
fine-accepted bs e = (exactly bs (check_of bs) refl).0 (ok-accepted (check_of bs) e)

-- what was read is held
pub read_held : (bs held old : List ℕ) (u : Unit {0}) → Ok u ≡ told (table_of bs) → held ≡ cond (is_ok (table_of bs)) bs old → held ≡ bs
read_held bs held old u e h = split (table_of bs) e h
  where
    split : (r : Result Layout Fault) → Ok u ≡ told r → held ≡ cond (is_ok r) bs old → held ≡ bs
    split (Ok l) e h = h
    split (Err f) e h = cc
