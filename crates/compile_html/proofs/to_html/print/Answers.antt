use Rattle.std.proofs.Common.{◌≡◌, ℕ, Bool, true, false, not, List, None, [], ◌∷◌, ◌++◌, reverse, string_bytes, unwrap_or, refl, sym, ap, ◌∙◌, subst}
use Rattle.std.specs.Result.{IfOk}
use Rattle.compile_html.proofs.Prelude.{blocks_of, children_pieces, ending_bytes, ends_in, Event, first_line, fold, Frame, fresh_unless, GoesOn, in_bytes}
use Rattle.compile_html.proofs.Prelude.{layout_after, LayoutState, left_pieces, LineEnding, loose_lists, page_after, page_of, page_view, Piece, Printer, Vec}
use Rattle.compile_html.proofs.Prelude.{without_mark}
use Rattle.std.proofs.lemmas.List.{append-nil}
use Rattle.markdown_compile_options.specs.declared.configuration.CompileOptions.{CompileOptions}
use Rattle.definition_page.specs.BlockPieces.{at_top, document_pieces}
use Rattle.html_bytes.specs.Layout.{lay, nothing_laid, with_footnotes}
use Rattle.html_bytes.proofs.SamePage.{page_same}
use Rattle.html_bytes.proofs.SameText.{pieces_same}
use Rattle.event_meaning.specs.Spelled.{default_ending}
use Rattle.engine_events.specs.declared.event.Name.TheVariants.{BlankLineEnding}
use Rattle.event_meaning.specs.Left.{whole_document}
use Rattle.compile_html.proofs.Going.{laid_by, no_false}
use Rattle.compile_html.proofs.to_html.print.Goals as goal

pub returns : goal.returns
returns g c = λ m ds ns meant is sound lists numbers.
    let names = g.T.Tables.reference_of c.args.source.now.tables.now in
    let bytes = c.args.source.now.checked.bytes.now in
    let events = c.args.source.now.checked.events.now in
    let printer = c.in_ok-printer.printer in
    let frames : List Frame = whole_document ns ∷ [] in
    let whole = page_after names bytes m printer frames in
    let loose = c.in_ok-loose.ensures ns sound.nodes (c.events-events.ensures ∙ is) in
    let goes : GoesOn names bytes m events whole printer events = record {
      frames = frames;
      front = [];
      split = refl;
      stands = record {
        open_ = ((refl, refl), record { sound = sound; lists = lists; numbers = numbers; before = λ x. no_false _ x; document = λ x. refl }, tt);
        levels = c.in_ok-printer.ensures.opened;
        events = is ∙ sym (append-nil _);
        loose = ap (λ (x : Vec Bool _). reverse x.items) c.in_ok-printer.ensures.loose
            ∙ loose
            ∙ ap (λ (bs : List ℕ). loose_lists bs ns) c.bytes-bytes.ensures
            ∙ sym (append-nil (loose_lists bytes ns));
      };
      prints = refl;
    } in
    let printed = c.in_ok-events.ensures.printed m ds ns whole meant sound.nodes is goes in
    let e = printer.leaves.page.default_ending in
    let after = c.events.new.self.leaves.page in
    let blocks = children_pieces m at_top None (blocks_of names bytes true ns) in
    let last = fresh_unless (not (ends_in BlankLineEnding false ns)) in
    let pieces : left_pieces names bytes m frames ≡ blocks = append-nil (blocks ++ []) ∙ append-nil blocks in
    let laid : page_view after ≡ layout_after m.compile e nothing_laid (in_bytes (blocks ++ last))
    = printed
    ∙ laid_by names bytes m e (page_view printer.leaves.page) whole (left_pieces names bytes m frames) last refl
    ∙ ap (λ (l : LayoutState). layout_after m.compile e l (in_bytes (left_pieces names bytes m frames ++ last))) c.in_ok-printer.ensures.blank
    ∙ ap (λ (ps : List Piece). layout_after m.compile e nothing_laid (in_bytes (ps ++ last))) pieces in
    let ending : ending_bytes e ≡ default_ending m.compile bytes
    = ap ending_bytes (c.in_ok-printer.ensures.default ∙ c.default_ending-ending.ensures)
    ∙ ap (λ (bs : List ℕ). ending_bytes (unwrap_or (first_line (without_mark bs)).ending c.args.source.now.options.now.default_line_ending)) c.bytes-bytes.ensures
    ∙ ap (λ (o : CompileOptions). default_ending o bytes) (sym meant.compile) in
    let by_ending : LineEnding → List ℕ = λ x. with_footnotes c.args.source.now.options.now (ending_bytes x) (page_view after) in
    let by_options : CompileOptions → List ℕ = λ o. with_footnotes o (ending_bytes e) (layout_after m.compile e nothing_laid (in_bytes (blocks ++ last))) in
    let by_default : List ℕ → List ℕ = λ d. with_footnotes m.compile d (fold (lay m.compile d) nothing_laid (in_bytes (blocks ++ last))) in
    subst (λ x. IfOk c.finish.result (λ html. string_bytes html ≡ x))
    (ap by_ending c.in_ok-events.ensures.default
    ∙ ap (with_footnotes c.args.source.now.options.now (ending_bytes e)) laid
    ∙ ap by_options (sym meant.compile)
    ∙ ap by_default ending
    ∙ sym (page_same m.compile (default_ending m.compile bytes) (blocks ++ last) (in_bytes (blocks ++ last)) (pieces_same m.compile (default_ending m.compile bytes) (blocks ++ last))))
    c.finish.ensures
