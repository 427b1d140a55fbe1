use Rattle.std.proofs.Common.{ap, refl, inl, inr}
use Rattle.markdown_engine.specs.Machine.{view_config}
use Rattle.markdown_engine.specs.Reading.{seen_as}
use Rattle.markdown_engine.proofs.Push.{not_refused}
use Rattle.tests_engine.proofs.readings.read_at_once.Goals as goal

pub returns-in_default-clause-reads : goal.returns-in_default-clause-reads
returns-in_default-clause-reads g c =
    let new = c.in_ok-tokenizer.ensures in
    elim c.read_at_once.ensures.reads [
      | inl r ↦ absurd (not_refused c.read_at_once.result c.in_default.not-Error r)
      | inr h ↦ record {
        config = view_config g.M.Machine.seen c.read_at_once.new.self;
        well = h.well;
        runs = rw (new.parse_state, new.skips, ap (seen_as g.M.Machine.seen) new.config) at h.runs;
        read = refl;
      }
    ]
