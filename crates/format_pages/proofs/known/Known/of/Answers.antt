use Rattle.std.proofs.Common.{◌≡◌, List, ℕ, ap, ◌∙◌, subst}
use Rattle.std.specs.Prelude.{IfSome, map, string_bytes}
use Rattle.markdown_definition.specs.Html.{html}
use Rattle.markdown_tables.specs.Builtin.{builtin_tables}
use Rattle.format_pages.specs.Calls.{calls, with_calls}
use Rattle.format_pages.specs.Constructs.{by_every}
use Rattle.format_pages.proofs.known.Known.of.Goals as goal

pub returns-clause-known : goal.returns-clause-known
returns-clause-known c =
    let hidden = c.in_ok-hidden.ensures in
    record {
      front = c.in_ok-front.ensures;
      page = c.in_ok-page.ensures.page;
      every = c.in_ok-every.ensures.page;
      plain = c.in_ok-plain.ensures.page;
      hidden = hidden;
      calls = c.in_ok-calls.ensures ∙ ap (λ ls. calls (map string_bytes ls)) c.deref.ensures.value ∙ ap calls hidden.footnotes;
      called =
          subst (λ (cs : List ℕ). IfSome c.in_ok-called.called (λ it. string_bytes it ≡ html builtin_tables (with_calls cs c.args.text.now) (by_every c.args.options.now)))
          c.deref-2.ensures c.in_ok-called.ensures.page;
    }
