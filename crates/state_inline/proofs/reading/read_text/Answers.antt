use Rattle.std.proofs.Common.{ap, refl, inl, inr}
use Rattle.state_inline.proofs.Prelude.{not_refused, seen_as, view_config}
use Rattle.state_inline.proofs.reading.read_text.Goals as goal

pub returns-in_default-clause-balanced : goal.returns-in_default-clause-balanced
returns-in_default-clause-balanced g c =
    elim c.read_at_once.ensures.whole [
      | inl r ↦ absurd (not_refused c.read_at_once.result c.in_default.not-Error r)
      | inr h ↦ h.0
    ]

pub returns-in_default-clause-order : goal.returns-in_default-clause-order
returns-in_default-clause-order g c =
    elim c.read_at_once.ensures.whole [
      | inl r ↦ absurd (not_refused c.read_at_once.result c.in_default.not-Error r)
      | inr h ↦ (c.read_at_once.new.self.point, h.1)
    ]

pub returns-in_default-clause-reads : goal.returns-in_default-clause-reads
returns-in_default-clause-reads g c =
    let new = c.in_ok-tokenizer.ensures in
    elim c.read_at_once.ensures.reads [
      | inl r ↦ absurd (not_refused c.read_at_once.result c.in_default.not-Error r)
      | inr h ↦ record {
        config = view_config (λ m. m) c.read_at_once.new.self;
        well = h.well;
        runs = rw (new.parse_state, new.skips, ap (seen_as (λ m. m)) new.config) at h.runs;
        read = refl;
      }
    ]
