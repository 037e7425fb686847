-- Inside the crate: where the terms of a fresh roll end, by their bytes.
use Rattle.std.specs.Prelude.{ℕ, zero, suc, ◌+◌, ◌≤◌, cond, List, [], ◌∷◌, ltb, length, get_or, drop}
use Rattle.number.specs.Numbers.{one_byte}
use Rattle.salvaging.specs.declared.forms.Form.{Form}
use Rattle.salvaging.specs.declared.forms.Form.TheVariants.{One, Two}

-- how many bytes stand before the one that ends a number
unfoldable pub until_last : List ℕ → ℕ
until_last [] = 0
until_last (b ∷ s) = cond (one_byte b) 0 (suc (until_last s))

-- a Boys order stands between a term's scale and the number of its bytes; in form 2 a shared length too
abbrev pub behind : Form → ℕ
behind One = 2
behind Two = 3

-- where the number of a term's bytes stands
unfoldable pub count_at : ℕ → List ℕ → ℕ → ℕ
count_at n s at = at + until_last (drop at s) + n

-- the place after a term
unfoldable pub end_at : ℕ → List ℕ → ℕ → ℕ
end_at n s at = count_at n s at + 1 + get_or s (count_at n s at) 0

-- so many terms end inside
unfoldable pub Whole : ℕ → List ℕ → ℕ → ℕ → Type 0
Whole n s at zero = Unit
Whole n s at (suc left) = (end_at n s at ≤ length s) × Whole n s (end_at n s at) left

-- how many of so many terms end no further than a place
unfoldable pub ends_within : ℕ → List ℕ → ℕ → ℕ → ℕ → ℕ
ends_within n s most at zero = 0
ends_within n s most at (suc left) = cond (ltb most (end_at n s at)) 0 (suc (ends_within n s most (end_at n s at) left))
