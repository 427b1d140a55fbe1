use Rattle.std.proofs.Common.{[], refl, sym, ap, ◌∙◌, subst, reverse}
use Rattle.inline_rows.proofs.Container as container
use Rattle.inline_reading.specs.Shows.{AreOpen, NoneOpen}
use Rattle.inline_reading.proofs.reading.Reading.new.Goals as goal

pub returns-clause-nothing : goal.returns-clause-nothing
returns-clause-nothing g c leads at = record {
  by = record {
    outer_rows = [];
    now_rows = [];
    outer_runs = [];
    now_runs = [];
    outer_slots = [];
    now_slots = [];
    rows_are = c.reserve.ensures.items ∙ c.clear-3.ensures.items;
    runs_are = c.clear.ensures.items;
    slots_are = c.clear-2.ensures.items;
    outer = subst (λ ls. AreOpen leads at [] [] [] ls []) (sym (ap reverse c.clear-4.ensures.items)) NoneOpen;
    now = container.none leads at 0;
  };
  holds_link = refl;
}
