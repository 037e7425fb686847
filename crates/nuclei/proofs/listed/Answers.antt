-- `listed` meets its contract: each check bars what follows. Assumes nothing.
use mathlib.Core.Path.{◌≡◌}
use native.Mathlib.Omega.{arith}
use lib.ListN.{length}
use Rattle.nuclei.proofs.NucleiLaws.{kept-few, list-seventeen, list-eight, list-nine, list-ten, list-summed}
use Rattle.nuclei.proofs.listed.Goals as goal

pub returns-then-not-list_kept : goal.returns-then-not-list_kept
returns-then-not-list_kept c = search list-seventeen

pub shared_ref_as_front-nuclei : goal.shared_ref_as_front-nuclei
shared_ref_as_front-nuclei c = search kept-few

pub returns-then-not-inputs_finite : goal.returns-then-not-inputs_finite
returns-then-not-inputs_finite c = search list-eight

pub returns-then-not-exponents_above_zero : goal.returns-then-not-exponents_above_zero
returns-then-not-exponents_above_zero c = search list-nine

pub returns-then-boys-nuclei : goal.returns-then-boys-nuclei
returns-then-boys-nuclei c =
    let long : length c.args.nuclei.centres ≡ 32 = omega arith in
    search list-ten

pub returns : goal.returns
returns c =
    let long : length c.args.nuclei.centres ≡ 32 = omega arith in
    search list-summed
