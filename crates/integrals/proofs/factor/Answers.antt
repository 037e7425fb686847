-- `factor` meets its contract: Coulomb's, or another kind's. Assumes nothing.
use Rattle.integrals.proofs.Factors.{factor-divided, factor-kept}
use mathlib.Core.Path.{sym}
use Rattle.integrals.proofs.factor.Goals as goal

pub returns-in-Coulomb : goal.returns-in-Coulomb
returns-in-Coulomb c = search factor-divided

pub returns-in_default : goal.returns-in_default
returns-in_default c = sym (factor-kept c.args.kind c.args.a c.args.b c.args.c c.args.d c.args.aux c.in_default.not-Coulomb)
