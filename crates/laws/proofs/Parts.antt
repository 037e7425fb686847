-- Bytes at a place of a lent list; a part that starts at a place: what it holds, and what the whole holds once bytes are put down at its front.
use Prim.Native.Nat.{ℕ, ◌+◌, ◌-◌, ◌≤◌}
use mathlib.Core.Path.{◌≡◌, ap, ◌∙◌}
use mathlib.Core.Bool.{true, false}
use mathlib.Core.List.{List, [], ◌++◌, append-nil, append_assoc}
use native.Mathlib.Omega.{arith}
use lib.ListN.{length, take, drop, length-drop, drop_of_length-le}
use lib.Seq.{sets, sets-eq, drop-drop, take_all}
use borrow.Rule.Slice.PartMut.{put_mid}
use borrow.Author.Tests.{leb-true}
use Rattle.laws.specs.Placed.{placed, room_for, placed_where_fits}

-- bytes that are stored one after the other stand at their place
pub sets-placed : (bytes out : List ℕ) (at : ℕ) → at + length bytes ≤ length out → sets out at bytes ≡ placed out at bytes
sets-placed bytes out at room = sets-eq bytes out at room ∙ append_assoc (take at out) bytes (drop (at + length bytes) out)

-- stored where they have room, and nothing stored where they have none
pub room-placed : (bytes out : List ℕ) (at : ℕ) → room_for out at (length bytes) ≡ true → sets out at bytes ≡ placed_where_fits out at bytes
room-placed bytes out at room = sets-placed bytes out at (leb-true (at + length bytes) (length out) room) ∙ rw room

pub no-room-placed : (bytes out : List ℕ) (at : ℕ) → room_for out at (length bytes) ≡ false → out ≡ placed_where_fits out at bytes
no-room-placed bytes out at none = rw none

-- the part lent is all that stands from the start on
pub part-all : (out : List ℕ) (start : ℕ) → take (length out - start) (drop start out) ≡ drop start out
part-all out start = take_all (length out - start) (drop start out) (omega (arith, length-drop start out))

-- a list put down at the front of that part stands in the whole from the start on
pub part-put : (out part bytes : List ℕ) (start : ℕ) → start + length bytes ≤ length out → part ≡ sets (take (length out - start) (drop start out)) 0 bytes → put_mid start (length out - start) out part ≡ placed out start bytes
part-put out part bytes start room put =
    let inside : 0 + length bytes ≤ length (drop start out) = omega (arith, length-drop start out) in
    let zero-add : 0 + length bytes ≡ length bytes = omega arith in
    let all : part ≡ sets (drop start out) 0 bytes = rw (part-all out start) at put in
    let none : drop (length out - start) (drop start out) ≡ [] = drop_of_length-le (drop start out) {i = length out - start} (omega (arith, length-drop start out)) in
    let stored : sets (drop start out) 0 bytes ≡ bytes ++ drop (start + length bytes) out = sets-eq bytes (drop start out) 0 inside ∙ ap (λ (l : List ℕ). bytes ++ l) (ap (λ (n : ℕ). drop n (drop start out)) zero-add ∙ drop-drop (length bytes) start out) in
    ap (λ (l : List ℕ). take start out ++ l) (ap (λ (l : List ℕ). part ++ l) none ∙ append-nil part ∙ all ∙ stored)
