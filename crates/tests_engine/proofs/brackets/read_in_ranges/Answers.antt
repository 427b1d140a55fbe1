use Rattle.std.proofs.Common.{refl, inl, inr}
use Rattle.markdown_engine.specs.Machine.{config}
use Rattle.markdown_engine.proofs.Push.{not_refused}
use Rattle.tests_engine.proofs.brackets.read_in_ranges.Goals as goal

pub returns-in_default-clause-reads : goal.returns-in_default-clause-reads
returns-in_default-clause-reads g c =
    let new = c.in_ok-tokenizer.ensures in
    elim c.read_in_ranges.ensures.reads [
      | inl r ↦ absurd (not_refused c.read_in_ranges.result c.in_default.not-Error r)
      | inr h ↦ record { config = config c.read_in_ranges.new.self; well = h.well; runs = rw (new.parse_state, new.skips, new.config) at h.runs; read = refl }
    ]
