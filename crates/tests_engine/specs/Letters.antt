-- A machine that puts an event round each byte.
use Rattle.std.specs.Prelude.{◌≡◌, None, []}
use Rattle.engine_events.specs.declared.event.Name.TheVariants.{Data}
use Rattle.markdown_engine.specs.Laws.{HoldsAt}
use Rattle.markdown_engine.specs.Machine.{past_byte, with_enter, with_exit}
use Rattle.markdown_engine.specs.Order.{IsTidy, open_after}
use Rattle.markdown_engine.specs.Reading.{Config, Steps}
use Rattle.tests_engine.specs.declared.letters.Letters.{Letters}
use Rattle.tests_engine.specs.EachByte.{HoldsEach, each_byte}

module _ {M : Type 0} where
  -- an event round the byte
  abbrev pub round_byte : Config M → Config M
  round_byte c = with_exit Data (past_byte (with_enter Data None c))

  -- nothing is open between letters
  pub record IsBetween (c : Config M) : Type 0 where
    pub tidy : IsTidy c
    pub closed : open_after [] c.events ≡ []

unfoldable pub letter_step : Steps Letters
letter_step = each_byte (λ c. c) round_byte

abbrev pub reads_letters : HoldsAt Letters
reads_letters = HoldsEach IsBetween IsBetween
