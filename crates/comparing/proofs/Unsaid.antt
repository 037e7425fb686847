-- A line of the head is left out only where it has nothing to say: the kinds, the orders or the term counts are the same.
use mathlib.Core.Path.{◌≡◌, sym, ap, ◌∙◌}
use mathlib.Core.Bool.{false}
use borrow.Author.Tests.{not-false, eqb-true}
use lib.Dec.{eqb}
use lib.ListN.{length}
use Rattle.std.specs.Prelude.{Some}
use Rattle.kind.specs.Kinds.{kind_of, number_of}
use Rattle.kind.proofs.KindNumber.{kind-number}
use Rattle.roll.specs.Reading.{Roll}
use Rattle.laws.specs.Same.{same_numbers}
use Rattle.comparing.specs.Text.{kinds_differ, orders_differ, terms_differ}
use Rattle.laws.proofs.SameLaws.{same-numbers-is}

pub kinds-unsaid : (l r : Roll) → kinds_differ l r ≡ false → l.kind ≡ r.kind
kinds-unsaid l r e =
    let numbers : number_of l.kind ≡ number_of r.kind = eqb-true (number_of l.kind) (number_of r.kind) (not-false (eqb (number_of l.kind) (number_of r.kind)) e) in
    let both : Some l.kind ≡ Some r.kind = sym (kind-number l.kind) ∙ ap kind_of numbers ∙ kind-number r.kind in
    cc

pub orders-unsaid : (l r : Roll) → orders_differ l r ≡ false → l.orders ≡ r.orders
orders-unsaid l r e = same-numbers-is l.orders r.orders (not-false (same_numbers l.orders r.orders) e)

pub terms-unsaid : (l r : Roll) → terms_differ l r ≡ false → length l.terms ≡ length r.terms
terms-unsaid l r e = eqb-true (length l.terms) (length r.terms) (not-false (eqb (length l.terms) (length r.terms)) e)
