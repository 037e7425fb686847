-- What the walk that compares has found. It reads the lent bytes and writes none.
use Rattle.std.specs.Prelude.{ℕ, ◌+◌, ◌^◌, ◌<◌, ◌≤◌, ◌≡◌, cond, List, [], ◌∷◌, eqb, length, get_or, drop}
use Rattle.kind.specs.declared.Kind.{Kind}
use Rattle.kind.specs.Limits.{most_terms}
use Rattle.term.specs.Terms.{Term}
use Rattle.form2.specs.Bytes.{shared}
use Rattle.steps.specs.declared.CentreName.{CentreName}
use Rattle.steps.specs.declared.Axis.{Axis}
use Rattle.expansion.specs.declared.Path.{Path}
use Rattle.expansion.specs.declared.matching.Beside.{Beside}
use Rattle.expansion.specs.Expanding.{terms_of}
use Rattle.expansion.specs.inner.View.{path_prefactors}
use Rattle.expansion.specs.inner.Sinks.{in_form1, in_form2, form_bytes}
use Rattle.expansion.specs.inner.Walking.{Good, TurnMay}
use Rattle.expansion.specs.inner.Requests.{RequestWithin, Packed, form_of, head_of}

-- the form, the place after what was the same, the prefactors of the term before, and whether a byte differed: 0 for no
pub record Match : Type 0 where
  pub form : ℕ
  pub place : ℕ
  pub earlier : List ℕ
  pub differs : ℕ

-- as the code holds it: six words, the fourth to the sixth as a path's
unfoldable pub match_of : List ℕ → Match
match_of words = record { form = get_or words 0 0; place = get_or words 1 0; earlier = path_prefactors (get_or words 3 0) (get_or words 4 0) (get_or words 5 0); differs = get_or words 2 0 }

-- 0 where all bytes are shared
unfoldable pub differing : ℕ → ℕ → ℕ
differing same all = cond (eqb same all) 0 1

-- what a sink does that writes in a form
unfoldable pub written_in : ℕ → ℕ
written_in form = cond (eqb form in_form1) in_form1 in_form2

-- how many of a term's bytes stand from the place on
unfoldable pub beside_term : List ℕ → Match → Term → ℕ
beside_term s m t = shared (drop m.place s) (form_bytes m.form m.earlier t)

-- bytes held against those from a place on
pub record BesideTold (s : List ℕ) (at : ℕ) (bytes : List ℕ) (r : Beside) : Type 0 where
  pub same-is : r.same ≡ shared (drop at s) bytes
  pub all-is : r.all ≡ length bytes
  pub inside : at + r.same ≤ length s

-- with one term more, and with terms; nothing more once a byte differed
unfoldable pub matched : List ℕ → Match → Term → Match
matched s m t =
    cond (eqb m.differs 0)
    (record { form = m.form; place = m.place + beside_term s m t; earlier = t.prefactors; differs = differing (beside_term s m t) (length (form_bytes m.form m.earlier t)) })
    m

unfoldable pub matched_all : List ℕ → Match → List Term → Match
matched_all s m [] = m
matched_all s m (t ∷ ts) = matched_all s (matched s m t) ts

-- the place is inside, and the term before has no more prefactors than two words hold
pub record Apt (s : List ℕ) (m : Match) : Type 0 where
  pub inside : m.place ≤ length s
  pub few : length m.earlier < 25

-- terms are compared
pub record Matched (s : List ℕ) (m : Match) (ts : List Term) (r : Match) : Type 0 where
  pub is : r ≡ matched_all s m ts
  pub apt : Apt s r

-- each of a term's numbers but the scale takes one byte
pub record TermApt (s : List ℕ) (p : Path) (m : Match) : Type 0 where
  pub scale : p.scale < 2 ^ 32
  pub boys : p.boys < 128
  pub count : p.count < 25
  pub apt : Apt s m

pub record NodeApt (s : List ℕ) (k : Kind) (left : ℕ) (p : Path) (m : Match) : Type 0 where
  pub good : Good k left p
  pub apt : Apt s m

pub record BranchApt (s : List ℕ) (k : Kind) (left : ℕ) (p : Path) (c : CentreName) (x : Axis) (times number : ℕ) (m : Match) : Type 0 where
  pub good : Good k left p
  pub turn : TurnMay k left c x times number
  pub apt : Apt s m

-- a request that was measured: its word and its term count
pub record CountMay (k : Kind) (orders : List ℕ) (left count : ℕ) : Type 0 where
  pub within : RequestWithin k orders
  pub word : Packed orders 0 left
  pub count-is : count ≡ length (terms_of k orders)
  pub few : length (terms_of k orders) ≤ most_terms

-- bytes that begin with what stands before the terms
pub record HeadSame (form : ℕ) (k : Kind) (orders s : List ℕ) (at : ℕ) : Type 0 where
  pub at-is : at ≡ length (head_of (form_of form) k orders)
  pub same : shared s (head_of (form_of form) k orders) ≡ at
