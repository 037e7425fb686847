-- `inputs_finite` meets its contract: one part, then the next. Assumes nothing.
use borrow.Author.Rules.{rules}
use borrow.Author.Tests.{tests}
use native.Mathlib.Omega.{arith}
use mathlib.Core.Path.{◌≡◌}
use Rattle.std.proofs.lemmas.Iterator.{YieldsList-from_slice}
use Rattle.std.proofs.lemmas.Iterator.Search.{all_from_yields_List}
use Rattle.std.specs.List.{list_all}
use Rattle.kind.specs.declared.Kind.TheVariants.{Nuclear}
use Rattle.geometry.specs.declared.Centre.{Centre}
use Rattle.geometry.specs.Checks.{used_finite}
use Rattle.nuclei.specs.Nuclei.{inputs_finite}
use Rattle.nuclei.proofs.inputs_finite.Goals as goal
use Rattle.nuclei.proofs.inputs_finite.Goals.{then-all, else-all}

pub returns-then-finite : goal.returns-then-finite
unfolding inputs_finite
returns-then-finite c =
    let used : c.all.result ≡ list_all (λ (x : Centre). used_finite Nuclear c.args.a c.args.b x x) c.args.nuclei.now = all_from_yields_List (λ (x : Centre). used_finite Nuclear c.args.a c.args.b x x) _ _ _ c.all.ensures.ran (YieldsList-from_slice c.args.nuclei.now cc) (λ x b q k. search (rules, tests)) in
    elim c.if-all.branch [ then-all w ↦ grind arith | else-all w ↦ grind arith ]

pub returns-else-finite : goal.returns-else-finite
unfolding inputs_finite
returns-else-finite c =
    let used : c.all.result ≡ list_all (λ (x : Centre). used_finite Nuclear c.args.a c.args.b x x) c.args.nuclei.now = all_from_yields_List (λ (x : Centre). used_finite Nuclear c.args.a c.args.b x x) _ _ _ c.all.ensures.ran (YieldsList-from_slice c.args.nuclei.now cc) (λ x b q k. search (rules, tests)) in
    elim c.if-all.branch [ then-all w ↦ grind arith | else-all w ↦ grind arith ]
