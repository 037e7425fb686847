-- How a roll that has been judged is read again: its numbers, its terms, one after the other, and no limit.
use Rattle.std.specs.Prelude.{ℕ, zero, suc, ◌+◌, ◌-◌, ◌≤◌, min, ◌≡◌, true, List, [], ◌∷◌, length, take, drop, get_or, Err}
use Rattle.number.specs.Read.{Number, Is}
use Rattle.number.specs.Numbers.{one_byte, read_at}
use Rattle.term.specs.Terms.{Term}
use Rattle.roll.specs.declared.again.Seen.{Seen}
use Rattle.roll.specs.declared.again.Head.{Head}

-- a number that reads, with the place after it
unfoldable pub seen_of : ℕ → Number → Seen
seen_of at (Is n next) = record { value = n; next = next }
seen_of at (Err why) = record { value = 0; next = at }

unfoldable pub seen_at : List ℕ → ℕ → Seen
seen_at roll at = seen_of at (read_at roll at)

-- a term's scale, Boys order and count, the place of its prefactors and the place after them
unfoldable pub head_at : List ℕ → ℕ → Head
head_at roll at =
    let scale = seen_at roll at in
    let boys = seen_at roll scale.next in
    let count = seen_at roll boys.next in
    record { scale = scale.value; boys = boys.value; from = count.next; end = min (count.next + count.value) (length roll) }

abbrev pub boys_at : List ℕ → ℕ → ℕ
boys_at roll at = (head_at roll at).boys

abbrev pub end_at : List ℕ → ℕ → ℕ
end_at roll at = (head_at roll at).end

-- where a term's scale, Boys order and count are one byte each, and its prefactors end inside the roll
pub record Short (roll : List ℕ) (at : ℕ) : Type 0 where
  pub scale : one_byte (get_or roll at 0) ≡ true
  pub boys : one_byte (get_or roll (at + 1) 0) ≡ true
  pub count : one_byte (get_or roll (at + 2) 0) ≡ true
  pub inside : at + 3 + get_or roll (at + 2) 0 ≤ length roll

-- the bytes from one place to another
unfoldable pub between : List ℕ → ℕ → ℕ → List ℕ
between roll from end = take (end - from) (drop from roll)

unfoldable pub head_term : List ℕ → Head → Term
head_term roll h = record { scale = h.scale; boys = h.boys; prefactors = between roll h.from h.end }

-- so many terms from a place on
unfoldable pub terms_again : List ℕ → ℕ → ℕ → List Term
terms_again roll at zero = []
terms_again roll at (suc left) = head_term roll (head_at roll at) ∷ terms_again roll (end_at roll at) left
