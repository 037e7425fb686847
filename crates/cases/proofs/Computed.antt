-- The definitions compute every starred row of 01.
use mathlib.Core.Path.{refl}
use mathlib.Core.List.{flat_map}
use Rattle.steps.specs.Choice.{chosen, first_axis}
use Rattle.steps.specs.Steps.{branches, times, lowered}
use Rattle.laws.specs.Total.{total}
use Rattle.steps.specs.States.{step, turns, nexts}
use Rattle.histories.specs.History.{depth, in_turn, walk, expand}
use Rattle.number.specs.Numbers.{groups, bytes_of}
use Rattle.roll.specs.Bytes.{numbers_bytes, term_bytes, terms_bytes, roll_bytes}
use Rattle.shell.specs.Shells.{descending, triples}
use Rattle.cases.specs.Rows.{rows, AllHold}

pub starred : AllHold rows
unfolding chosen first_axis branches times lowered total step turns nexts depth in_turn walk expand groups bytes_of numbers_bytes term_bytes terms_bytes roll_bytes descending triples flat_map
starred = (
  (refl, refl),
  (
    (refl, refl),
    (
      (refl, tt),
      (
        (refl, tt),
        (
          (refl, tt),
          (
            (refl, tt),
            (
              (refl, tt),
              (
                (refl, tt),
                (
                  (refl, tt),
                  (
                    (refl, tt),
                    (
                      refl,
                      tt,
                    ),
                  ),
                ),
              ),
            ),
          ),
        ),
      ),
    ),
  ),
)
