-- `list_kept` meets its contract: the count, then the charges. Assumes nothing.
use borrow.Author.Rules.{rules}
use borrow.Author.Tests.{tests}
use mathlib.Core.Path.{◌≡◌}
use mathlib.Core.Logic.{inl, inr}
use Rattle.std.proofs.lemmas.Iterator.{YieldsList-from_slice}
use Rattle.std.proofs.lemmas.Iterator.Search.{all_from_yields_List}
use Rattle.std.specs.List.{list_all}
use Rattle.kind.specs.declared.Kind.TheVariants.{Nuclear}
use Rattle.geometry.specs.Charges.{charge_kept}
use Rattle.nuclei.specs.Nuclei.{nuclei_of}
use Rattle.nuclei.proofs.NucleiLaws.{none_kept, many-kept, all-kept}
use Rattle.nuclei.proofs.list_kept.Goals as goal

pub returns-then-count-lt1 : goal.returns-then-count-lt1
returns-then-count-lt1 c = elim c.then-count-lt1.either [ inl few ↦ search none_kept | inr many ↦ search many-kept ]

pub returns : goal.returns
returns c =
    let every : c.all.result ≡ list_all (charge_kept Nuclear) (nuclei_of c.args.nuclei) = all_from_yields_List (charge_kept Nuclear) _ _ _ c.all.ensures.ran (YieldsList-from_slice (nuclei_of c.args.nuclei) cc) (λ x b q k. search (rules, tests)) in
    search all-kept
