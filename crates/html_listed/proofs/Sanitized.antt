-- What is kept of any HTML is a page of the list.
use Rattle.std.proofs.Common.{◌≡◌, ℕ, Bool, true, false, not, ◌&&◌, List, [], ◌∷◌, length, refl, sym, ap, subst}
use Rattle.std.specs.List.{fold}
use Rattle.std.proofs.lemmas.Bool.{and_parts, and_from, or_left, true≢false}
use Rattle.markdown_compile_options.specs.declared.configuration.CompileOptions.{CompileOptions}
use Rattle.definition_inline.specs.CharacterReference.{Names}
use Rattle.html_safe_page.specs.Table.{start_rows_of, void_rows_of}
use Rattle.html_safe_page.specs.declared.table.TagTable.TheVariants.{Basic}
use Rattle.html_safe_page.specs.SafePage.{Items, End, Letter, Void, Element, join, is_tag_of}
use Rattle.definition_html.specs.Listing.{is_in, heading_names}
use Rattle.definition_html.specs.Raw.{raw_parts}
use Rattle.definition_html.specs.State.{level, nothing_open, all_ended, begins_with_frame}
use Rattle.definition_html.specs.Listed.{raw_part, sanitized}
use Rattle.html_listed.specs.ListedPage.{is_listed_start, is_listed_void, is_start, is_void, have_tags}
use Rattle.html_listed.specs.Mixed.{Mixed, Done, Char, OwnTag, OwnElement, RawTag, RawElement, all_items, own_items, raw_may_begin, stand_in}
use Rattle.html_listed.specs.Standing.{may_begin, stand}
use Rattle.html_listed.specs.Laws.{HaveSafeProtocols, SanitizedLaw}
use Rattle.html_listed.proofs.Mixed.{IsMixedIn}
use Rattle.html_listed.proofs.Parts.{parts_good}
use Rattle.html_listed.proofs.Spellings.{weaker_tags, one_listed_reading}
use Rattle.html_listed.proofs.Within.{both_steps, ends, parts_step, level_page}

-- ---- without tags of the page's own

abbrev is_end : Items → Bool
is_end End = true
is_end (Letter b items) = false
is_end (Void tag items) = false
is_end (Element tag inside items) = false

both_end : (a b : Items) → join a b ≡ End → (a ≡ End) × (b ≡ End)
both_end End b e = (refl, e)
both_end (Letter x items) b e = absurd (true≢false (sym (ap is_end e)))
both_end (Void tag items) b e = absurd (true≢false (sym (ap is_end e)))
both_end (Element tag inside items) b e = absurd (true≢false (sym (ap is_end e)))

-- all tags are raw ones, and stand where they may
record AreRaw (names : List (List ℕ)) (items : Items) : Type 0 where
  tags : have_tags is_listed_start is_listed_void items ≡ true
  stands : stand names items ≡ true

all_raw : (h : Bool) (names : List (List ℕ)) (p : Mixed) → own_items p ≡ End → stand_in Basic (level h names) p ≡ true → AreRaw names (all_items p)
all_raw h names Done own k = record { tags = refl; stands = refl }
all_raw h names (Char b items) own k = let more = all_raw h names items own k in record { tags = more.tags; stands = more.stands }
all_raw h names (OwnTag tag items) own k = absurd (true≢false (sym (ap is_end own)))
all_raw h names (OwnElement tag inside items) own k = absurd (true≢false (sym (ap is_end own)))
all_raw h names (RawTag tag items) own k =
    let place = not (begins_with_frame names) in
    let parts = and_parts (is_listed_void tag && place) (stand_in Basic (level h names) items) k in
    let here = and_parts (is_listed_void tag) place parts.0 in
    let more = all_raw h names items own parts.1 in
    record {
      tags = and_from (is_listed_void tag) (have_tags is_listed_start is_listed_void (all_items items)) here.0 more.tags;
      stands = and_from place (stand names (all_items items)) here.1 more.stands;
    }
all_raw h names (RawElement tag inside items) own k =
    let may = raw_may_begin (level h names) tag.name in
    let within = stand_in Basic (level h (tag.name ∷ names)) inside in
    let parts = and_parts (is_listed_start tag && may) (within && stand_in Basic (level h names) items) k in
    let both = and_parts within (stand_in Basic (level h names) items) parts.1 in
    let here = and_parts (is_listed_start tag) may parts.0 in
    let place = (and_parts (may_begin names tag.name) (not (h && is_in heading_names tag.name)) here.1).0 in
    let none = both_end (own_items inside) (own_items items) own in
    let inner = all_raw h (tag.name ∷ names) inside none.0 both.0 in
    let more = all_raw h names items none.1 both.1 in
    let inner_tags = have_tags is_listed_start is_listed_void (all_items inside) in
    let more_tags = have_tags is_listed_start is_listed_void (all_items items) in
    record {
      tags = and_from (is_listed_start tag) (inner_tags && more_tags) here.0 (and_from inner_tags more_tags inner.tags more.tags);
      stands = and_from (may_begin names tag.name) (stand (tag.name ∷ names) (all_items inside) && stand names (all_items items)) place
          (and_from (stand (tag.name ∷ names) (all_items inside)) (stand names (all_items items)) inner.stands more.stands);
    }

-- ---- any HTML

-- any HTML is printed as a page
kept_page : (names : Names) (options : CompileOptions) (html : List ℕ) → HaveSafeProtocols options → IsMixedIn Basic false [] End (sanitized names options html)
kept_page names options html safe =
    let parts = raw_parts names options html in
    let printed = fold raw_part nothing_open parts in
    let first = parts_step Basic parts nothing_open tt (parts_good names options safe html) in
    let all = both_steps Basic End End nothing_open printed (all_ended printed) first (ends Basic (length printed.level.names) printed first.fit) in
    subst (IsMixedIn Basic false [] End) (sym all.printed) (level_page Basic End nothing_open printed refl all)

pub sanitized_law : SanitizedLaw
sanitized_law names options html safe =
    let p = kept_page names options html safe in
    let items = all_items p.0 in
    let raw = all_raw false [] p.0 p.2 p.1 in
    record {
      items = items;
      is_reading = (raw.tags, p.3);
      stands = raw.stands;
      is_only = λ table other h.
          one_listed_reading table (sanitized names options html) other items h (
            weaker_tags is_listed_start is_listed_void (is_start table) (is_void table)
                (λ t e. or_left (is_listed_start t) (is_tag_of (start_rows_of table) t) e)
                (λ t e. or_left (is_listed_void t) (is_tag_of (void_rows_of table) t) e) items raw.tags,
            p.3,
          );
    }
