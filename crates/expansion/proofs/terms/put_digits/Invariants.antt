-- `put_digits` meets its contract.
use Rattle.expansion.proofs.TermsWords.{Putting}
use Rattle.expansion.proofs.terms.put_digits.Given as goal

abbrev pub invariant-loop-i : goal.invariant-loop-i
invariant-loop-i l = Putting l.initial.out l.at l.count l.word l.out l.rest l.i

abbrev pub decreases-loop-i : goal.decreases-loop-i
decreases-loop-i l = l.i
