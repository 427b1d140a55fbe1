-- The inline structure of a content of codes that stand for themselves: its parts are such codes, and no character reference is among them.
use Rattle.std.proofs.Common.{◌≡◌, ℕ, suc, zero, Bool, true, false, cond, eqb, ◌&&◌, ◌==◌, List, [], ◌∷◌, map, Option, None, Some, take, drop, refl}
use Rattle.std.proofs.Common.{sym, subst}
use Rattle.laws_endings.proofs.Prelude.{after_all, after_run, after_uri, after_white, and_parts, autolink_after, autolink_at, begins_with, begins_with_scheme}
use Rattle.laws_endings.proofs.Prelude.{begins_with_space, by_label, by_resource, by_text, call_or_link, called_label, closed_autolink, code_text_at, codes}
use Rattle.laws_endings.proofs.Prelude.{codes_of, cond-false, cond_both, Constructs, Data, destination_at, domain_end, email_end, escape_at, escaped_break_at}
use Rattle.laws_endings.proofs.Prelude.{formed_at, Found, html_byte, html_end, html_leaf, html_text_at, ImageStart, InlineCode, InlineContext, InlineLeaf}
use Rattle.laws_endings.proofs.Prelude.{inlines, inlines_from, is_ascii_punctuation, is_domain_byte, is_email_byte, is_eol, is_marker, is_scheme_byte}
use Rattle.laws_endings.proofs.Prelude.{is_trailing_break, is_uri_byte, is_white, label_at, label_end_at, LabelStart, Leads, leaf, leaf_at, leaf_here}
use Rattle.laws_endings.proofs.Prelude.{line_end_at, line_spaces_at, link_or_image, LinkOrCall, LinkResource, LinkStart, LinkTail, literal_after, literal_at}
use Rattle.laws_endings.proofs.Prelude.{literal_name, literal_start_at, LiteralStart, math_text_at, may_mark, may_open_math, opens_title, option_map, or_else}
use Rattle.laws_endings.proofs.Prelude.{Part, prefix_len, raw_at, raw_leaf, raw_part, reference_after, reference_at, reference_form, reference_of, resource_at}
use Rattle.laws_endings.proofs.Prelude.{resource_end, resource_inside, resource_with_destination, resource_with_title, run, Run, run_at, run_of, text}
use Rattle.laws_endings.proofs.Prelude.{text_before, title_at, up_to, uri_end, without_indent}
use Rattle.definition_inline.specs.Scan.{spans_from}
use Rattle.laws_endings.proofs.Contents.{no_ending_here}
use Rattle.definition_inline.proofs.InlineReads.{LeafGood, BeginsGood, either_begins, Nests, FormedGood, Reads, spans_good}
use Rattle.definition_inline.proofs.LiteralsKept.{Carries, literals_good, linked_good}
use Rattle.laws_endings.proofs.Each.{Each, each-append, each-take, each-drop, each_map, WhereSome, where_passed}
use Rattle.laws_endings.proofs.Neighbours.{marker_marks}
use Rattle.laws_endings.proofs.LiteralTexts.{name_plain, StartPlain, start_plain}
use Rattle.laws_endings.proofs.Parts.{TargetFits, IsFitLeaf, IsFit, AreFit}
use Rattle.laws_endings.proofs.Fits.{Single, Plain, each_plain, no_ending_by, plain_byte, all_passed, Apart, before_apart, after_all_apart}
use Rattle.laws_endings.proofs.Fits.{after_byte_apart, apart_from, white_fits, PartFits, title_fits, DestinationFits, destination_fits, TitleFits}
use Rattle.laws_endings.proofs.Fits.{code_text_fits}

-- ---- resources

abbrev ResourceFits : Option LinkResource → Type 0
ResourceFits o = WhereSome (λ (r : LinkResource). Each Plain r.destination × TitleFits r.title) o

resource_end_fits : (destination : List ℕ) (title : Option (List ℕ)) (cs : List ℕ) → Each Plain destination → TitleFits title
    → ResourceFits (resource_end destination title cs)
resource_end_fits destination title [] p q = tt
resource_end_fits destination title (c ∷ cs) p q = where_passed (λ (r : LinkResource). Each Plain r.destination × TitleFits r.title) (eqb c 41) _ (p, q)

resource_title_fits : (destination : List ℕ) (o : Option Part) → Each Plain destination → PartFits Single o → ResourceFits (resource_with_title destination o)
resource_title_fits destination None p q = tt
resource_title_fits destination (Some title) p q = resource_end_fits destination (Some title.text) (after_white title.rest) p q.0

resource_destination_fits : (o : Option Part) → DestinationFits o → ResourceFits (resource_with_destination o)
resource_destination_fits None p = tt
resource_destination_fits (Some destination) p =
    let next = after_white destination.rest in
    cond_both (begins_with_space destination.rest && opens_title next) (resource_with_title destination.text (title_at next)) _ ResourceFits
    (λ _. resource_title_fits destination.text (title_at next) p.0 (title_fits Single next (white_fits Single destination.rest p.1)))
    (λ _. resource_end_fits destination.text None next p.0 tt)

resource_inside_fits : (cs : List ℕ) → Each Single cs → ResourceFits (resource_inside cs)
resource_inside_fits [] p = tt
resource_inside_fits (c ∷ cs) p =
    cond_both (eqb c 41) (resource_end [] None (c ∷ cs)) (resource_with_destination (destination_at (Some 32) (c ∷ cs))) ResourceFits
    (λ _. resource_end_fits [] None (c ∷ cs) tt tt)
    (λ _. resource_destination_fits (destination_at (Some 32) (c ∷ cs)) (destination_fits (Some 32) (c ∷ cs) p))

resource_fits : (cs : List ℕ) → Each Single cs → ResourceFits (resource_at cs)
resource_fits [] p = tt
resource_fits (c ∷ cs) p =
    cond_both (eqb c 40) (resource_inside (after_white cs)) None ResourceFits
    (λ _. resource_inside_fits (after_white cs) (white_fits Single cs p.1)) (λ _. tt)

abbrev EndedFits : Option LinkTail → Type 0
EndedFits o = WhereSome (λ (found : LinkTail). TargetFits found.target) o

abbrev FormedFits : Option LinkOrCall → Type 0
FormedFits o = FormedGood TargetFits o

module _ (is_defined : List ℕ → Bool) where
  by_text_fits : (text rest : List ℕ) → EndedFits (by_text is_defined text rest)
  by_text_fits text rest = where_passed (λ (found : LinkTail). TargetFits found.target) _ _ tt

  by_label_fits : (text rest : List ℕ) (o : Option Part) → EndedFits (by_label is_defined text rest o)
  by_label_fits text rest None = by_text_fits text rest
  by_label_fits text rest (Some label) = where_passed (λ (found : LinkTail). TargetFits found.target) (is_defined label.text) _ tt

  by_resource_fits : (text rest : List ℕ) (o : Option LinkResource) → ResourceFits o → EndedFits (by_resource is_defined text rest o)
  by_resource_fits text rest None p = by_label_fits text rest (label_at rest)
  by_resource_fits text rest (Some resource) p = p

  ended_fits : (text rest : List ℕ) → Each Single rest → EndedFits (label_end_at is_defined text rest)
  ended_fits text rest p = by_resource_fits text rest (resource_at rest) (resource_fits rest p)

  leads_fit : (o : Option LinkTail) → EndedFits o → FormedFits (option_map Leads o)
  leads_fit None p = tt
  leads_fit (Some end) p = p

  leading_fits : (text rest : List ℕ) → Each Single rest → FormedFits (link_or_image is_defined text rest)
  leading_fits text rest p = leads_fit (label_end_at is_defined text rest) (ended_fits text rest p)

  call_or_link_fits : (on : Constructs) (text rest : List ℕ) (call : Option (List ℕ)) → Each Single rest
      → FormedFits (call_or_link on is_defined text rest call)
  call_or_link_fits on text rest None p =
      cond_both on.label_start_link (link_or_image is_defined text rest) None FormedFits (λ _. leading_fits text rest p) (λ _. tt)
  call_or_link_fits on text rest (Some label) p = tt

-- ---- constructs that hold no other

abbrev pub FoundFits : Found → Type 0
FoundFits found = LeafGood IsFit found

abbrev pub BeginsFit : Option Found → Type 0
BeginsFit o = BeginsGood IsFit o

pub begin_or : (a b : Option Found) → BeginsFit a → BeginsFit b → BeginsFit (or_else a b)
begin_or a b p q = either_begins IsFit a b p q

-- one leaf, where a test passes
one_fits : (test : Bool) (part : InlineLeaf) (size : ℕ) → IsFitLeaf part → BeginsFit (cond test (Some (leaf (part ∷ []) size)) None)
one_fits test part size p = where_passed FoundFits test (leaf (part ∷ []) size) (p, tt)

-- a literal
literal_fits : (on : Constructs) (content : List InlineCode) → Each Single (codes_of content) → BeginsFit (literal_at on content)
literal_fits on [] p = tt
literal_fits on (c ∷ cs) p =
    cond_both on.gfm_autolink_literal (literal_after c cs (literal_start_at c.previous (codes_of (c ∷ cs)))) None BeginsFit
    (λ _. after (literal_start_at c.previous (codes_of (c ∷ cs))) (start_plain c.previous (codes_of (c ∷ cs)) p)) (λ _. tt)
  where
    after : (o : Option LiteralStart) → StartPlain (codes_of (c ∷ cs)) o → BeginsFit (literal_after c cs o)
    after None h = tt
    after (Some start) h =
        let front = codes_of (c ∷ cs) in
        let name = literal_name (drop start.size front) in
        one_fits _ _ _ (each-append Plain (take start.size front) name h (name_plain (drop start.size front) (each-drop Single start.size front p)))

part_fits : (marker : ℕ) (text : List ℕ) → Each Single text → IsFitLeaf (raw_part marker text)
part_fits marker text p = cond_both (marker == 36) _ _ IsFitLeaf (λ _. code_text_fits text p) (λ _. code_text_fits text p)

raw_none_fits : (marker : ℕ) (content : List ℕ) → Plain marker → Each IsFitLeaf (map Data (take (run marker content) content))
raw_none_fits marker content h =
    each_map Plain IsFitLeaf Data (take (run marker content) content) (λ b p. p)
    (all_passed (λ b. eqb b marker) Plain content (λ b is. plain_byte b marker h is))

raw_fits : (marker : ℕ) (content rest : List ℕ) (o : Option (List ℕ)) → Plain marker → Each Single rest
    → FoundFits (raw_leaf marker (run marker content) content (up_to rest o))
raw_fits marker content rest None h p = raw_none_fits marker content h
raw_fits marker content rest (Some end) h p = (part_fits marker (text_before rest end) (each-take Single _ rest p), tt)

raw_at_fits : (marker : ℕ) (may_open : Bool) (content : List ℕ) → Plain marker → Each Single content → BeginsFit (raw_at marker may_open content)
raw_at_fits marker may_open content h p =
    let n = run marker content in
    let rest = after_run marker content in
    where_passed FoundFits _ (raw_leaf marker n content (up_to rest (run_of marker n false rest)))
    (raw_fits marker content rest (run_of marker n false rest) h (each-drop Single n content p))

-- ---- autolinks

abbrev EndsClear : List ℕ → Option (List ℕ) → Type 0
EndsClear content o = WhereSome (Apart content) o

uri_clear : (content : List ℕ) → EndsClear content (uri_end content)
uri_clear content =
    let rest = after_all is_scheme_byte content in
    let colon = begins_with (codes ":") rest in
    cond_both (begins_with_scheme content && colon) (Some (after_uri rest)) None (EndsClear content)
    (λ h. apart_from content rest (after_uri rest) (after_all_apart is_scheme_byte content refl refl refl)
    (after_byte_apart 58 rest (after_uri rest) refl (and_parts (begins_with_scheme content) colon h).1
    (after_all_apart is_uri_byte (drop 1 rest) refl refl refl)))
    (λ _. tt)

email_clear : (content : List ℕ) → EndsClear content (email_end content)
email_clear content =
    let rest = after_all is_email_byte content in
    let inner = drop 1 rest in
    let at = begins_with (codes "@") rest in
    cond_both (_ && at) (domain_end inner) None (EndsClear content)
    (λ h. cond_both _ (Some (after_all is_domain_byte inner)) None (EndsClear content)
    (λ _. apart_from content rest (after_all is_domain_byte inner) (after_all_apart is_email_byte content refl refl refl)
    (after_byte_apart 64 rest (after_all is_domain_byte inner) refl (and_parts _ at h).1 (after_all_apart is_domain_byte inner refl refl refl)))
    (λ _. tt))
    (λ _. tt)

autolink_fits : (is_email : Bool) (content : List ℕ) (o : Option (List ℕ)) → Each Single content → EndsClear content o
    → BeginsFit (closed_autolink is_email content o)
autolink_fits is_email content None p q = tt
autolink_fits is_email content (Some rest) p q =
    one_fits _ _ _ (each_plain (text_before content rest) (each-take Single _ content p) (before_apart content rest q))

html_fits : (content : List ℕ) (o : Option (List ℕ)) → Each Single content → BeginsFit (html_leaf content o)
html_fits content None p = tt
html_fits content (Some rest) p = (each-take Single _ content p, tt)

module _ (on : Constructs) where
  pub escape_fits : (content : List ℕ) → Each Single content → BeginsFit (escape_at on content)
  escape_fits [] p = tt
  escape_fits (c ∷ []) p = tt
  escape_fits (c ∷ next ∷ cs) p =
      cond_both (on.character_escape && (eqb c 92 && is_ascii_punctuation next)) _ None BeginsFit
      (λ h. (
        (
          p.1.0,
          no_ending_by is_ascii_punctuation next refl refl refl
              (and_parts (eqb c 92) (is_ascii_punctuation next) (and_parts on.character_escape _ h).1).1,
        ),
        tt,
      ))
      (λ _. tt)

  escaped_break_fits : (content : List ℕ) → BeginsFit (escaped_break_at on content)
  escaped_break_fits [] = tt
  escaped_break_fits (c ∷ cs) = one_fits _ _ _ tt

  -- no reference begins without its `&`
  no_reference : (names : List ℕ → Option (List ℕ)) (content : List ℕ) → Each Single content → reference_form content ≡ None
  no_reference names [] p = refl
  no_reference names (c ∷ cs) p = cond-false (eqb c 38) (reference_after cs) None p.0.0

  pub reference_fits : (names : List ℕ → Option (List ℕ)) (content : List ℕ) → Each Single content → BeginsFit (reference_at on names content)
  reference_fits names content p =
      cond_both on.character_reference (reference_of names content (reference_form content)) None BeginsFit
      (λ _. subst (λ form. BeginsFit (reference_of names content form)) (sym (no_reference names content p)) tt) (λ _. tt)

  autolink_at_fits : (content : List ℕ) → Each Single content → BeginsFit (autolink_at on content)
  autolink_at_fits content p =
      let inner = drop 1 content in
      let q = each-drop Single 1 content p in
      cond_both _ (autolink_after inner) None BeginsFit
      (λ _. begin_or (closed_autolink false inner (uri_end inner)) (closed_autolink true inner (email_end inner))
      (autolink_fits false inner (uri_end inner) q (uri_clear inner)) (autolink_fits true inner (email_end inner) q (email_clear inner)))
      (λ _. tt)

  html_at_fits : (content : List ℕ) → Each Single content → BeginsFit (html_text_at on content)
  html_at_fits content p =
      let rest = html_end (map html_byte content) in
      cond_both _ (html_leaf content rest) None BeginsFit (λ _. html_fits content rest p) (λ _. tt)

  spaces_fits : (content : List ℕ) → BeginsFit (line_spaces_at on content)
  spaces_fits content =
      where_passed FoundFits _ _
      (cond_both (on.hard_break_trailing && is_trailing_break content) _ [] (Each IsFitLeaf) (λ _. (tt, tt)) (λ _. tt))

pub line_end_fits : (content : List ℕ) → Each Single content → BeginsFit (line_end_at content)
line_end_fits [] p = tt
line_end_fits (c ∷ cs) p = one_fits (is_eol c) _ _ p.0

-- ---- places

nests : Nests IsFit AreFit
nests = record {
  none = tt;
  more = λ i is p q. (p, q);
  first = λ i is p. p.0;
  rest = λ i is p. p.1;
  span = λ kind kids p. p;
}

-- email addresses and the text of links
literals : Carries IsFit AreFit (λ kids others. Unit {0})
literals = record {
  none = tt;
  more = λ i is p q. (p, q);
  first = λ i is p. p.0;
  rest = λ i is p. p.1;
  literal = λ kind text p. p;
  bytes = λ kind text p. p;
  span = λ kind. record { opens = λ kids p. p; closes = λ kids others p kept q. q };
  linked = λ kind target. record { opens = λ kids p. p.1; closes = λ kids others p kept q. (p.0, q) };
  keeps_without = λ kids. tt;
  keeps_with = λ kids. tt;
}

abbrev SinglesOf : List ℕ → Type 0
SinglesOf cs = Each Single cs

module _ (context : InlineContext) where
  formed_at_fits : (start : LabelStart) (between rest : List ℕ) → Each Single rest → FormedFits (formed_at context start between rest)
  formed_at_fits LinkStart between rest p =
      let on = context.options.constructs in
      call_or_link_fits context.is_defined on between rest (called_label on context.is_footnote between) p
  formed_at_fits ImageStart between rest p = leading_fits context.is_defined between rest p

  leaf_fits : (content : List ℕ) → Each Single content → BeginsFit (leaf_at context content)
  leaf_fits content p =
      let on = context.options.constructs in
      let math = may_open_math context.options (run 36 content) in
      begin_or (escape_at on content) _ (escape_fits on content p)
      (begin_or (escaped_break_at on content) _ (escaped_break_fits on content)
      (begin_or (reference_at on context.names content) _ (reference_fits on context.names content p)
      (begin_or (code_text_at on content) _ (raw_at_fits 96 on.code_text content ((refl, refl), refl) p)
      (begin_or (math_text_at context.options content) _ (raw_at_fits 36 math content ((refl, refl), refl) p)
      (begin_or (autolink_at on content) _ (autolink_at_fits on content p)
      (begin_or (html_text_at on content) _ (html_at_fits on content p)
      (begin_or (line_end_at content) (line_spaces_at on content) (line_end_fits content p) (spaces_fits on content))))))))

  here_fits : (content : List InlineCode) → Each Single (codes_of content) → BeginsFit (leaf_here context content)
  here_fits content p =
      begin_or (leaf_at context (codes_of content)) (literal_at context.options.constructs content) (leaf_fits (codes_of content) p)
      (literal_fits context.options.constructs content p)

  abbrev RunFits : Option Run → Type 0
  RunFits o = WhereSome (λ (r : Run). Plain r.marker) o

  run_at_fits : (c : InlineCode) (cs : List InlineCode) → Single c.code → RunFits (run_at context.options (c ∷ cs))
  run_at_fits c cs p =
      cond_both (is_marker context.options c.code) _ None RunFits
      (λ h. (p, no_ending_by may_mark c.code refl refl refl (marker_marks context.options c.code h))) (λ _. tt)

  reads : Reads IsFit AreFit TargetFits SinglesOf context
  reads = record {
    nests = nests;
    linked = λ kind target kids h p. (h, p);
    call = λ label. tt;
    close = ((refl, refl), refl);
    open_link = ((refl, refl), refl);
    open_image = ((refl, refl), refl);
    tail = λ c cs h. h.1;
    begun = λ content h. here_fits content h;
    byte = λ c cs h none. (h.0, no_ending_here context c cs none);
    marker = λ c cs h. run_at_fits c cs h.0;
    forms = λ start between content h. formed_at_fits start between (drop 1 content) (each-drop Single 1 content h);
  }

  pub dropped_codes : (n : ℕ) (content : List InlineCode) → Each Single (codes_of content) → Each Single (codes_of (drop n content))
  dropped_codes zero content p = p
  dropped_codes (suc n) [] p = tt
  dropped_codes (suc n) (c ∷ cs) p = dropped_codes n cs p.1

  -- from a place of a content on
  pub from_fits : (content : List InlineCode) → Each Single (codes_of content) → AreFit (inlines_from context content)
  from_fits content p =
      let spans = spans_from context content in
      let fit = spans_good IsFit AreFit TargetFits SinglesOf context reads content p in
      linked_good context.options.constructs AreFit spans (λ _. literals_good IsFit AreFit (λ kids others. Unit {0}) literals spans fit) fit

  pub inlines_fit : (content : List InlineCode) → Each Single (codes_of content) → AreFit (inlines context content)
  inlines_fit content p =
      from_fits (without_indent content) (dropped_codes (prefix_len (λ (c : InlineCode). is_white c.code) content) content p)
