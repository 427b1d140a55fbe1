-- Pieces of a page with footnotes that add a safe page to what stands around them, and footnotes whose contents are safe pages.
use Rattle.std.proofs.Common.{◌≡◌, ℕ, Bool, suc, true, List, [], ◌∷◌, ◌++◌, map, refl, sym, ap, ◌∙◌, subst, append-nil}
use Rattle.markdown_compile_options.specs.declared.configuration.CompileOptions.{CompileOptions}
use Rattle.definition_page.specs.Tags.{PrintedPart, Tag}
use Rattle.definition_page.specs.Pieces.{Piece, Open, Close, Void, Says, Eol, Fresh, Named, CallOf, CountOf, NoteStart, NoteEnd}
use Rattle.definition_page.specs.InlinePieces.{element}
use Rattle.definition_page.specs.Slug.{next_slug, with_slug}
use Rattle.definition_page.specs.HeadingIds.{tag_with_id, with_ids}
use Rattle.definition_page.specs.GfmLabelStartFootnote.{Call, call_pieces}
use Rattle.definition_page.specs.Layout.{NamedCall, named_calls, times, call_of, with_calls, layout}
use Rattle.definition_page.proofs.PlainLayout.{ArePlain}
use Rattle.definition_page.proofs.Cuts.{shown_append, Cut, cut_plain, cut_append, cut_note}
use Rattle.html_safe_page.specs.Table.{start_rows, start_rows_of, void_rows, void_rows_of}
use Rattle.html_safe_page.specs.declared.table.TagTable.{TagTable}
use Rattle.laws_safe_page.proofs.Each.{Each, each-append}
use Rattle.laws_safe_page.proofs.Marked.{IsPage}
use Rattle.laws_safe_page.proofs.Values.{has_no_nul, IsText, IsSafePart}
use Rattle.laws_safe_page.proofs.Tags.{IsTag, as_start, as_void}
use Rattle.laws_safe_page.proofs.Pieces.{Adds, adds_nothing, adds_append, adds_element_by, adds_says, adds_void_by, adds_eol, adds_fresh}

-- the slugs that are taken after pieces
abbrev pub taken_after : List (List ℕ) → List Piece → List (List ℕ)
taken_after taken [] = taken
taken_after taken (Named t text ∷ ps) = taken_after (with_slug taken text) ps
taken_after taken (p ∷ ps) = taken_after taken ps

pub ids_append : (options : CompileOptions) (taken : List (List ℕ)) (ps qs : List Piece)
    → with_ids options taken (ps ++ qs) ≡ with_ids options taken ps ++ with_ids options (taken_after taken ps) qs
ids_append options taken [] qs = refl
ids_append options taken (Named t text ∷ ps) qs =
    ap (λ x. Open (tag_with_id options (next_slug taken text) t) ∷ x) (ids_append options (with_slug taken text) ps qs)
ids_append options taken (p ∷ ps) qs = ap (λ x. p ∷ x) (ids_append options taken ps qs)

module _ (marks : Bool) (table : TagTable) where
  -- a page without NUL, safe but for marks
  abbrev pub IsPrinted : List ℕ → Type 0
  IsPrinted page = IsPage marks table page × (has_no_nul page ≡ true)

  -- pieces, with what their calls print, that add a safe page outside of footnotes, and whose footnotes are safe pages
  pub record SafeShown (default : List ℕ) (shown : List Piece) : Type 0 where
    pub outside : List Piece
    pub insides : List (List Piece)
    pub cut : Cut shown outside insides
    pub outside_adds : Adds marks table default outside
    pub insides_safe : Each (λ c. IsPrinted (layout default c)) insides

  -- such are pieces with the ids of their headings, whatever slugs are taken, and whatever calls come first and before them
  abbrev pub Lays : CompileOptions → List ℕ → List Piece → Type 0
  Lays options default pieces =
      (taken : List (List ℕ)) (firsts earlier : List NamedCall) → SafeShown default (with_calls options firsts earlier (with_ids options taken pieces))

  module _ (options : CompileOptions) (default : List ℕ) where
    -- no footnote is among them
    safe_plain : (pieces : List Piece) → ArePlain pieces → Adds marks table default pieces → SafeShown default pieces
    safe_plain pieces are p = record { outside = pieces; insides = []; cut = cut_plain pieces are; outside_adds = p; insides_safe = tt }

    safe_append : (pieces others : List Piece) → SafeShown default pieces → SafeShown default others → SafeShown default (pieces ++ others)
    safe_append pieces others p q = record {
      outside = p.outside ++ q.outside;
      insides = p.insides ++ q.insides;
      cut = cut_append pieces others p.outside q.outside p.insides q.insides p.cut q.cut;
      outside_adds = adds_append marks table default p.outside q.outside p.outside_adds q.outside_adds;
      insides_safe = each-append (λ c. IsPrinted (layout default c)) p.insides q.insides p.insides_safe q.insides_safe;
    }

    pub lays_nothing : Lays options default []
    lays_nothing taken firsts earlier = safe_plain [] tt (adds_nothing marks table default)

    pub lays_append : (pieces others : List Piece) → Lays options default pieces → Lays options default others → Lays options default (pieces ++ others)
    lays_append pieces others p q taken firsts earlier =
        let before = with_ids options taken pieces in
        let more = taken_after taken pieces in
        let later = earlier ++ named_calls before in
        subst (SafeShown default)
        (sym (ap (with_calls options firsts earlier) (ids_append options taken pieces others) ∙ shown_append options firsts earlier before
        (with_ids options more others)))
        (safe_append (with_calls options firsts earlier before) (with_calls options firsts later (with_ids options more others)) (p taken firsts earlier)
        (q more firsts later))

    pub lays_says : (said : PrintedPart) → IsSafePart marks said → Lays options default (Says said ∷ [])
    lays_says said h taken firsts earlier = safe_plain (Says said ∷ []) (tt, tt) (adds_says marks table default said h)

    pub lays_void_by : (t : Tag) → IsTag (void_rows_of table) t → Lays options default (Void t ∷ [])
    lays_void_by t i taken firsts earlier = safe_plain (Void t ∷ []) (tt, tt) (adds_void_by marks table default t i)

    pub lays_parts : (parts : List PrintedPart) → Each (IsSafePart marks) parts → Lays options default (map Says parts)
    lays_parts [] h = lays_nothing
    lays_parts (said ∷ others) h = lays_append (Says said ∷ []) (map Says others) (lays_says said h.0) (lays_parts others h.1)

    -- an element, after these slugs
    element_laid : (taken : List (List ℕ)) (firsts earlier : List NamedCall) (t : Tag) (inside : List Piece) → IsTag (start_rows_of table) t
        → Lays options default inside → SafeShown default (with_calls options firsts earlier (Open t ∷ with_ids options taken (inside ++ Close t.name ∷ [])))
    element_laid taken firsts earlier t inside i p =
        let named = with_ids options taken inside in
        let shown = with_calls options firsts earlier named in
        let within = p taken firsts earlier in
        let end = Close t.name ∷ [] in
        let start : Cut (Open t ∷ []) (Open t ∷ []) [] = cut_plain (Open t ∷ []) (tt, tt) in
        let last : Cut (shown ++ end) (within.outside ++ end) (within.insides ++ []) =
        cut_append shown end within.outside end within.insides [] within.cut (cut_plain end (tt, tt)) in
        subst (λ all. SafeShown default (Open t ∷ all))
        (sym (ap (with_calls options firsts earlier) (ids_append options taken inside end) ∙ shown_append options firsts earlier named end))
        (record {
          outside = element t within.outside;
          insides = within.insides ++ [];
          cut = cut_append (Open t ∷ []) (shown ++ end) (Open t ∷ []) (within.outside ++ end) [] (within.insides ++ []) start last;
          outside_adds = adds_element_by marks table default t within.outside i within.outside_adds;
          insides_safe = each-append (λ c. IsPrinted (layout default c)) within.insides [] within.insides_safe tt;
        })

    pub lays_element_by : (t : Tag) (inside : List Piece) → IsTag (start_rows_of table) t → Lays options default inside
        → Lays options default (element t inside)
    lays_element_by t inside i p taken firsts earlier = element_laid taken firsts earlier t inside i p

    -- a heading with an id
    pub lays_heading : (t : Tag) (text : List ℕ) (inside : List Piece) → ((slug : List ℕ) → IsTag (start_rows_of table) (tag_with_id options slug t))
        → Lays options default inside → Lays options default (Named t text ∷ inside ++ Close t.name ∷ [])
    lays_heading t text inside i p taken firsts earlier =
        element_laid (with_slug taken text) firsts earlier (tag_with_id options (next_slug taken text) t) inside (i (next_slug taken text)) p

    -- tags of the basic table
    pub lays_void : (t : Tag) → IsTag void_rows t → Lays options default (Void t ∷ [])
    lays_void t i = lays_void_by t (as_void table t i)

    pub lays_element : (t : Tag) (inside : List Piece) → IsTag start_rows t → Lays options default inside → Lays options default (element t inside)
    lays_element t inside i p = lays_element_by t inside (as_start table t i) p

    -- ---- the default ending, where it is one

    module _ (ending : IsText default) where
      pub lays_eol : Lays options default (Eol ∷ [])
      lays_eol taken firsts earlier = safe_plain (Eol ∷ []) (tt, tt) (adds_eol marks table default ending)

      pub lays_fresh : Lays options default (Fresh ∷ [])
      lays_fresh taken firsts earlier = safe_plain (Fresh ∷ []) (tt, tt) (adds_fresh marks table default ending)

    -- ---- footnotes

    pub lays_call : ((call : Call) → Adds marks table default (call_pieces options call)) → (place : ℕ) (label : List ℕ)
        → Lays options default (CallOf place label ∷ [])
    lays_call p place label taken firsts earlier =
        let call : Call = call_of place (suc (times place earlier)) 1 firsts in
        subst (SafeShown default) (sym (append-nil (call_pieces options call)))
        (safe_plain (call_pieces options call) (tt, (tt, (tt, (tt, (tt, tt))))) (p call))

    pub lays_count : (place : ℕ) (label : List ℕ) → Lays options default (CountOf place label ∷ [])
    lays_count place label = lays_nothing

    -- the content of a footnote, which is laid out by itself
    pub lays_note : (inside : List Piece) → Lays options default inside → Lays options default (NoteStart ∷ inside ++ NoteEnd ∷ [])
    lays_note inside p taken firsts earlier =
        let named = with_ids options taken inside in
        let shown = with_calls options firsts earlier named in
        let within = p taken firsts earlier in
        let content = within.outside_adds [] in
        let printed : IsPrinted (layout default within.outside) = subst IsPrinted (sym content.is_after) (content.is_safe, content.no_nul) in
        subst (λ all. SafeShown default (NoteStart ∷ all))
        (sym (ap (with_calls options firsts earlier) (ids_append options taken inside (NoteEnd ∷ [])) ∙ shown_append options firsts earlier named
        (NoteEnd ∷ [])))
        (record {
          outside = [];
          insides = within.insides ++ within.outside ∷ [];
          cut = cut_note shown within.outside within.insides within.cut;
          outside_adds = adds_nothing marks table default;
          insides_safe = each-append (λ c. IsPrinted (layout default c)) within.insides (within.outside ∷ []) within.insides_safe (printed, tt);
        })
