-- `whole`: the number so far after each step, and that a root of its leading digits has half as many.
use mathlib.Core.Path.{◌∙◌}
use Prim.Native.Nat.{ℕ, ◌+◌, ◌*◌, ◌/◌, ◌%◌, ◌≤◌, ◌<◌}
use native.Mathlib.Omega.{arith}
use Rattle.root.specs.declared.Part.{Part}
use Rattle.root.specs.inner.Digits.{hidden, WholeTold, FurtherMay, RootTold}
use Rattle.root.proofs.Squares.{root-least, root-most}

least : (c n : ℕ) (p : Part) → WholeTold n p → c * c ≤ n → c ≤ p.root
least c n p t h = root-least c p.root p.rest n t.square t.short h

most : (c n : ℕ) (p : Part) → WholeTold n p → n < c * c → p.root < c
most c n p t h = root-most c p.root p.rest n t.square h

module _ (n : ℕ) (low : hidden ≤ n) (high : n < 4 * hidden) where
  pub whole-seven : (a : Part) → WholeTold (n / 0x100_0000_0000) a → FurtherMay a 128 (n / 0x400_0000 % 16384)
  whole-seven a A = record {
    short = A.short;
    below = omega arith;
    least = omega (arith, least 64 (n / 0x100_0000_0000) a A (omega arith));
    most = omega (arith, most 128 (n / 0x100_0000_0000) a A (omega arith));
    above = omega arith;
    small = omega arith;
  }

  module _ (a b : Part) (A : WholeTold (n / 0x100_0000_0000) a) (B : WholeTold ((a.root * a.root + a.rest) * 16384 + n / 0x400_0000 % 16384) b) where
    fourteen : WholeTold (n / 0x400_0000) b
    fourteen = record { square = B.square ∙ omega (arith, A.square); short = B.short }

    pub whole-fourteen : FurtherMay b 8192 (n % 0x400_0000)
    whole-fourteen = record {
      short = B.short;
      below = omega arith;
      least = omega (arith, least 8192 (n / 0x400_0000) b fourteen (omega arith));
      most = omega (arith, most 16384 (n / 0x400_0000) b fourteen (omega arith));
      above = omega arith;
      small = omega arith;
    }

    module _ (c : Part) (C : WholeTold ((b.root * b.root + b.rest) * 0x400_0000 + n % 0x400_0000) c) where
      half : WholeTold n c
      half = record { square = C.square ∙ omega (arith, fourteen.square); short = C.short }

      pub whole-half : (l : ℕ) → l < hidden → FurtherMay c 0x400_0000 l
      whole-half l L = record {
        short = C.short;
        below = omega arith;
        least = omega (arith, least 0x400_0000 n c half (omega arith));
        most = omega (arith, most 0x800_0000 n c half (omega arith));
        above = omega arith;
        small = omega arith;
      }

      pub whole-done : (d : Part) → WholeTold ((c.root * c.root + c.rest) * hidden + 0) d → RootTold n d
      whole-done d D =
          let all : WholeTold (n * hidden) d = record { square = D.square ∙ omega (arith, half.square); short = D.short } in record {
            square = all.square;
            short = all.short;
            least = least hidden (n * hidden) d all (omega arith);
            most = most (2 * hidden) (n * hidden) d all (omega arith);
          }
