use Rattle.std.proofs.Common.{◌≡◌, None, Some, sym, ap, subst, ◌∙◌}
use Rattle.parse_inline.proofs.Prelude.{content_codes, on_ok_weaker, resource_at, SpellsResource}
use Rattle.inline_links.specs.View.{resource_of}
use Rattle.parse_references.specs.Sound.{AreSound}
use Rattle.parse_inline.proofs.Behind.{by_reference, by_resource}
use Rattle.parse_inline.proofs.label.push_behind.Goals as goal

pub returns-in-Some-clause-written : goal.returns-in-Some-clause-written
returns-in-Some-clause-written g c =
    on_ok_weaker c.push_resource.result
    (λ pushes. λ context target text own_text from to stop on names has at st whole.
    let rest = c.args.rest.now in
    let found = resource_of c.in-Some.found in
    let read : Some found ≡ resource_at (content_codes rest) =
    c.in-Some.ensures.read ∙ ap (λ bs. resource_at (content_codes bs)) c.as_bytes.ensures.value in
    let tail = pushes text stop read st whole in
    let spells : SpellsResource context.options.constructs context.names text found tail.nodes =
    subst (λ by. SpellsResource by context.names text found tail.nodes) (sym on)
    (subst (λ by. SpellsResource c.args.reading.now.on.now by text found tail.nodes) (sym names) tail.spells) in
    let is = by_resource context text rest tail.nodes target own_text from to found has at read spells in
    record {
      front = tail.front;
      after = tail.after;
      both = tail.parts;
      nodes = tail.nodes;
      writes = tail.writes;
      whole = tail.whole;
      left = is.rest ∙ sym tail.rest;
      leads = is.leads;
      fill = tail.fill;
      sound =
          subst (λ by. AreSound by context.names text tail.nodes) (sym on)
          (subst (λ by. AreSound c.args.reading.now.on.now by text tail.nodes) (sym names) tail.sound);
    })
    c.push_resource.ensures.written

pub returns-in-None-clause-written : goal.returns-in-None-clause-written
returns-in-None-clause-written g c =
    on_ok_weaker c.push_link_reference.result
    (λ pushes. λ context target text own_text from to stop on names has at st whole.
    let rest = c.args.rest.now in
    let read : None ≡ resource_at (content_codes rest) =
    c.in-None.ensures.read ∙ ap (λ bs. resource_at (content_codes bs)) c.as_bytes.ensures.value in
    let tail = pushes text stop st whole in
    let is = by_reference context text rest tail.nodes target own_text from to has at read tail.spells in
    record {
      front = tail.front;
      after = tail.after;
      both = tail.parts;
      nodes = tail.nodes;
      writes = tail.writes;
      whole = tail.whole;
      left = is.rest ∙ sym tail.rest;
      leads = is.leads;
      fill = tail.fill;
      sound =
          subst (λ by. AreSound by context.names text tail.nodes) (sym on)
          (subst (λ by. AreSound c.args.reading.now.on.now by text tail.nodes) (sym names) tail.sound);
    })
    c.push_link_reference.ensures.written
