use Rattle.std.proofs.Common.{◌∙◌, ◌+◌, [], drop, refl, sym, subst, List}
use Rattle.compile_strings.proofs.Prelude.{HaveTargets, Held, IsHeld, leads_to, linked_at, linked_by, Spelled, SpelledStrings}
use Rattle.compile_strings.proofs.HeldLaw.{exit_open, enter_open, note_open}
use Rattle.compile_strings.proofs.JoinedLaw.{targets_more, raws_on}
use Rattle.compile_strings.proofs.PassLaw.{targets_media}
use Rattle.compile_strings.proofs.spelled.SpelledStrings.find_target.Goals as goal

pub returns-in_ok-exit-in-Exit-clause-held : goal.returns-in_ok-exit-in-Exit-clause-held
returns-in_ok-exit-in-Exit-clause-held g c = λ held.
    exit_open c.args.events.now c.args.open.now c.exit.new.self c.args.index c.requires c.in-Exit.is (sym c.is_media.ensures ∙ c.if-is_media.true)
    c.in_ok-exit-in-Exit.ensures.inner c.in_ok-exit-in-Exit.ensures.outer held

pub returns-in_ok-push-in-Enter-clause-held : goal.returns-in_ok-push-in-Enter-clause-held
returns-in_ok-push-in-Enter-clause-held g c = λ held.
    enter_open c.args.events.now c.args.open.now c.enter-held.new.self c.args.index c.requires c.in-Enter.is
    (sym c.is_media-in-Enter.ensures ∙ c.if-is_media-2.true) c.enter-held.ensures.inner c.enter-held.ensures.outer held

pub returns-in_ok-push-in-Enter-clause-targets : goal.returns-in_ok-push-in-Enter-clause-targets
returns-in_ok-push-in-Enter-clause-targets g c = λ ds at labels fits held targets.
    let names = g.T.Tables.reference_of c.args.texts.now.tables.now in
    let bytes = c.args.texts.now.bytes.now in
    let events = c.args.events.now in
    let behind = drop (c.args.index + 1) events in
    let new : SpelledStrings g.row.A.Denot =
    record { text = c.read_target.new.text; targets = c.push.new.self; raw_texts = c.args.self.now.raw_texts } in
    let inside = subst (λ (z : Held). IsHeld events behind 0 z) (sym c.enter-held.ensures.held) (held.each 0) in
    let is = c.in_ok-target-in-Enter.ensures ds at behind labels fits inside in
    subst (λ (z : List Spelled). HaveTargets (linked_at ds) new z)
    (sym (targets_media events names bytes (leads_to (linked_by ds)) c.args.index c.requires c.in-Enter.is
    (sym c.is_media-in-Enter.ensures ∙ c.if-is_media-2.true)))
    (targets_more c.args.self.now new (linked_at ds) c.in_ok-target-in-Enter.target _ _ is c.in_ok-push-in-Enter.ensures.items targets)

pub returns-in_ok-push-in-Enter-clause-raws : goal.returns-in_ok-push-in-Enter-clause-raws
returns-in_ok-push-in-Enter-clause-raws g c = λ ds at raws labels fits held have.
    let events = c.args.events.now in
    let behind = drop (c.args.index + 1) events in
    let new : SpelledStrings g.row.A.Denot =
    record { text = c.read_target.new.text; targets = c.push.new.self; raw_texts = c.args.self.now.raw_texts } in
    let inside = subst (λ (z : Held). IsHeld events behind 0 z) (sym c.enter-held.ensures.held) (held.each 0) in
    let is = c.in_ok-target-in-Enter.ensures ds at behind labels fits inside in
    raws_on c.args.self.now new is.joined [] raws is.text refl have

pub returns-else-is_media-2-clause-held : goal.returns-else-is_media-2-clause-held
returns-else-is_media-2-clause-held g c = λ held.
    note_open c.args.events.now c.args.open.now c.note.new.self c.args.index c.requires c.in-Enter.is
    (sym c.is_media-in-Enter.ensures ∙ c.if-is_media-2.false) c.note.ensures.inner c.note.ensures.outer held
