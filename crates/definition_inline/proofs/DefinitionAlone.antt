-- A definition at the front of a content is the same without what follows it.
use Rattle.std.proofs.Common.{◌≡◌, ℕ, Bool, true, false, cond, ◌||◌, eqb, List, [], ◌∷◌, ◌++◌, Option, None, Some, refl, sym, ap, ◌∙◌, ◌⊎◌, inl, inr}
use Rattle.std.proofs.Common.{append_assoc}
use Rattle.std.proofs.lemmas.Bool.{cases_Bool, cond-true}
use Rattle.std.proofs.lemmas.Option.{none-some, cond_some}
use Rattle.definition_text.specs.Columns.{is_white}
use Rattle.definition_text.specs.Content.{Part, part, is_eol}
use Rattle.definition_inline.specs.Space.{after_spaces, after_ending, after_white, begins_with_space}
use Rattle.definition_inline.specs.Label.{label_at}
use Rattle.definition_inline.specs.Destination.{destination_at}
use Rattle.definition_inline.specs.Title.{title_at}
use Rattle.definition_inline.specs.Definition.{Definition, definition, next_line_after, next_line, definition_with_title}
use Rattle.definition_inline.specs.Definition.{definition_without_title, definition_at}
use Rattle.definition_inline.proofs.PartSteps.{definition_before, with_title, or_definition_without_title, with_destination, with_colon, with_label}
use Rattle.definition_inline.proofs.DefinitionParts.{the_same, EndsHere, Whatever, label_reads, title_reads, destination_reads, cons_nil, spaces_pass}
use Rattle.definition_inline.proofs.DefinitionParts.{spaces_stop, spaces_leave, white_leaves}

-- these codes, and then nothing, or a line ending and the rest
abbrev pub EndsLine : List ℕ → List ℕ → List ℕ → Type 0
EndsLine cs own rest = ((cs ≡ own) × (rest ≡ [])) ⊎ ((e : ℕ) × (is_eol e ≡ true) × (cs ≡ own ++ e ∷ rest))

-- the same with codes before
ends_after : (front cs own rest : List ℕ) → EndsLine cs own rest → EndsLine (front ++ cs) (front ++ own) rest
ends_after front cs own rest (inl h) = inl (ap (λ l. front ++ l) h.0, h.1)
ends_after front cs own rest (inr h) = inr (h.0, h.1, ap (λ l. front ++ l) h.2 ∙ sym (append_assoc front own (h.0 ∷ rest)))

-- only white space is left of a line
record LineOver (cs rest : List ℕ) : Type 0 where
  own : List ℕ
  blank : after_spaces own ≡ []
  ends : EndsLine cs own rest

line_over : (cs rest : List ℕ) → next_line cs ≡ Some rest → LineOver cs rest
line_over [] rest h = record { own = []; blank = refl; ends = inl (refl, sym (the_same [] rest h)) }
line_over (c ∷ cs) rest h = elim (cases_Bool (is_white c)) [
  | inl w ↦
      let more = line_over cs rest (sym (ap next_line_after (spaces_pass c cs w)) ∙ h) in
      record { own = c ∷ more.own; blank = spaces_pass c more.own w ∙ more.blank; ends = ends_after (c ∷ []) cs more.own rest more.ends }
  | inr w ↦
      let both = cond_some (is_eol c) cs rest (sym (ap next_line_after (spaces_stop c cs w)) ∙ h) in
      record { own = []; blank = refl; ends = inr (c, both.0, ap (λ l. c ∷ l) both.1) }
]

-- white space alone may follow a destination, and is no title
blank_ends : (own : List ℕ) → after_spaces own ≡ [] → EndsHere own
blank_ends [] h = inl refl
blank_ends (c ∷ cs) h = elim (cases_Bool (is_white c)) [
  | inl w ↦ inr (ap (λ b. b || is_eol c) w)
  | inr w ↦ absurd (cons_nil c cs (sym (spaces_stop c cs w) ∙ h))
]

none_either : {A : Type 0} (b : Bool) (o : Option A) → o ≡ None → cond b o None ≡ None
none_either true o h = h
none_either false o h = refl

blank_untitled : (label text own : List ℕ) → after_spaces own ≡ [] → definition_with_title label (part text own) ≡ None
blank_untitled label text own h =
    none_either (begins_with_space own) (with_title label text (title_at (after_white own)))
    (ap (λ l. with_title label text (title_at (after_ending l))) h)

begins_same : (front : List ℕ) (x : ℕ) (s t : List ℕ) → begins_with_space (front ++ x ∷ s) ≡ begins_with_space (front ++ x ∷ t)
begins_same [] x s t = refl
begins_same (c ∷ cs) x s t = refl

-- ---- from the end to the front

-- what a reading of the rest of a definition gives is found again where nothing follows its last line
record Again (read : List ℕ → Option Definition) (MayFollow : List ℕ → Type 0) (cs : List ℕ) (d : Definition) : Type 0 where
  own : List ℕ
  fits : MayFollow own
  found : read own ≡ Some (definition d.label d.destination d.title [])
  ends : EndsLine cs own d.rest

before_found : (label destination : List ℕ) (title : Option (List ℕ)) (o : Option (List ℕ)) (d : Definition)
    → definition_before label destination title o ≡ Some d → (o ≡ Some d.rest) × (definition label destination title d.rest ≡ d)
before_found label destination title None d h = absurd (none-some d h)
before_found label destination title (Some rest) d h =
    let same = the_same (definition label destination title rest) d h in
    let after : rest ≡ d.rest = ap (λ x. x.rest) same in
    (ap Some after, ap (definition label destination title) (sym after) ∙ same)

ends_is : (cs others own rest : List ℕ) → cs ≡ others → EndsLine others own rest → EndsLine cs own rest
ends_is cs others own rest e (inl h) = inl (e ∙ h.0, h.1)
ends_is cs others own rest e (inr h) = inr (h.0, h.1, e ∙ h.2)

if_there : {A : Type 0} (b : Bool) (o : Option A) (x : A) → cond b o None ≡ Some x → (b ≡ true) × (o ≡ Some x)
if_there true o x h = (refl, h)
if_there false o x h = absurd (none-some x h)

without_title : (label text cs : List ℕ) (d : Definition) → definition_without_title label (part text cs) ≡ Some d
    → Again (λ own. or_definition_without_title label (part text own) (definition_with_title label (part text own))) EndsHere cs d
without_title label text cs d h =
    let found = before_found label text None (next_line cs) d h in
    let over = line_over cs d.rest found.0 in
    record {
      own = over.own;
      fits = blank_ends over.own over.blank;
      found =
          ap (or_definition_without_title label (part text over.own)) (blank_untitled label text over.own over.blank)
          ∙ ap (λ l. definition_before label text None (next_line_after l)) over.blank
          ∙ ap (λ x. Some (definition x.label x.destination x.title [])) found.1;
      ends = over.ends;
    }

title_found : (label text : List ℕ) (o : Option Part) (d : Definition) → with_title label text o ≡ Some d
    → (title : Part) × (o ≡ Some title) × (definition_before label text (Some title.text) (next_line title.rest) ≡ Some d)
title_found label text None d h = absurd (none-some d h)
title_found label text (Some title) d h = (title, refl, h)

with_its_title : (label text cs : List ℕ) (d : Definition) → definition_with_title label (part text cs) ≡ Some d
    → Again (λ own. definition_with_title label (part text own)) EndsHere cs d
with_its_title label text cs d h =
    let both = if_there (begins_with_space cs) (with_title label text (title_at (after_white cs))) d h in
    let there = title_found label text (title_at (after_white cs)) d both.1 in
    let title = there.0 in
    let reads = title_reads (after_white cs) title there.1 in
    let white = white_leaves cs reads.first (reads.more ++ title.rest) reads.here in
    let found = before_found label text (Some title.text) (next_line title.rest) d there.2 in
    let over = line_over title.rest d.rest found.0 in
    let own = white.front ++ reads.first ∷ (reads.more ++ over.own) in
    let apart : begins_with_space own ≡ true =
    begins_same white.front reads.first (reads.more ++ over.own) (reads.more ++ title.rest) ∙ sym (ap begins_with_space white.here) ∙ both.0 in
    record {
      own = own;
      fits = inr apart;
      found =
          cond-true (begins_with_space own) (with_title label text (title_at (after_white own))) None apart
          ∙ ap (λ l. with_title label text (title_at l)) (white.anywhere (reads.more ++ over.own))
          ∙ ap (with_title label text) (reads.anywhere over.own tt)
          ∙ ap (λ l. definition_before label text (Some title.text) (next_line_after l)) over.blank
          ∙ ap (λ x. Some (definition x.label x.destination x.title [])) found.1;
      ends =
          ends_is cs (white.front ++ reads.first ∷ (reads.more ++ title.rest)) own d.rest white.here
          (ends_after white.front (reads.first ∷ (reads.more ++ title.rest)) (reads.first ∷ (reads.more ++ over.own)) d.rest
          (ends_after (reads.first ∷ reads.more) title.rest over.own d.rest over.ends));
    }

after_destination : (label text cs : List ℕ) (d : Definition) → or_definition_without_title label (part text cs) (definition_with_title label (part text cs))
    ≡ Some d
    → Again (λ own. or_definition_without_title label (part text own) (definition_with_title label (part text own))) EndsHere cs d
after_destination label text cs d h = go (definition_with_title label (part text cs)) refl
  where
    go : (o : Option Definition) → definition_with_title label (part text cs) ≡ o
        → Again (λ own. or_definition_without_title label (part text own) (definition_with_title label (part text own))) EndsHere cs d
    go None e = without_title label text cs d (sym (ap (or_definition_without_title label (part text cs)) e) ∙ h)
    go (Some x) e =
        let more = with_its_title label text cs d (e ∙ sym (ap (or_definition_without_title label (part text cs)) e) ∙ h) in
        record { own = more.own; fits = more.fits; found = ap (or_definition_without_title label (part text more.own)) more.found; ends = more.ends }

destination_found : (label : List ℕ) (o : Option Part) (d : Definition) → with_destination label o ≡ Some d
    → (destination : Part) × (o ≡ Some destination) × (or_definition_without_title label destination (definition_with_title label destination) ≡ Some d)
destination_found label None d h = absurd (none-some d h)
destination_found label (Some destination) d h = (destination, refl, h)

after_colon : (label cs : List ℕ) (d : Definition) → with_destination label (destination_at None (after_white cs)) ≡ Some d
    → Again (λ own. with_destination label (destination_at None (after_white own))) Whatever cs d
after_colon label cs d h =
    let there = destination_found label (destination_at None (after_white cs)) d h in
    let destination = there.0 in
    let reads = destination_reads (after_white cs) destination there.1 in
    let white = white_leaves cs reads.first (reads.more ++ destination.rest) reads.here in
    let more = after_destination label destination.text destination.rest d there.2 in
    let own = white.front ++ reads.first ∷ (reads.more ++ more.own) in
    record {
      own = own;
      fits = tt;
      found =
          ap (λ l. with_destination label (destination_at None l)) (white.anywhere (reads.more ++ more.own))
          ∙ ap (with_destination label) (reads.anywhere more.own more.fits)
          ∙ more.found;
      ends =
          ends_is cs (white.front ++ reads.first ∷ (reads.more ++ destination.rest)) own d.rest white.here
          (ends_after white.front (reads.first ∷ (reads.more ++ destination.rest)) (reads.first ∷ (reads.more ++ more.own)) d.rest
          (ends_after (reads.first ∷ reads.more) destination.rest more.own d.rest more.ends));
    }

after_label : (label cs : List ℕ) (d : Definition) → with_colon label cs ≡ Some d → Again (with_colon label) Whatever cs d
after_label label [] d h = absurd (none-some d h)
after_label label (c ∷ cs) d h =
    let both = if_there (eqb c 58) (with_destination label (destination_at None (after_white cs))) d h in
    let more = after_colon label cs d both.1 in
    record {
      own = c ∷ more.own;
      fits = tt;
      found = cond-true (eqb c 58) _ _ both.0 ∙ more.found;
      ends = ends_after (c ∷ []) cs more.own d.rest more.ends;
    }

label_found : (o : Option Part) (d : Definition) → with_label o ≡ Some d → (label : Part) × (o ≡ Some label) × (with_colon label.text label.rest ≡ Some d)
label_found None d h = absurd (none-some d h)
label_found (Some label) d h = (label, refl, h)

whole_definition : (cs : List ℕ) (d : Definition) → definition_at cs ≡ Some d → Again definition_at Whatever cs d
whole_definition cs d h =
    let there = label_found (label_at (after_spaces cs)) d h in
    let label = there.0 in
    let reads = label_reads (after_spaces cs) label there.1 in
    let white = spaces_leave cs reads.first (reads.more ++ label.rest) reads.here in
    let more = after_label label.text label.rest d there.2 in
    let own = white.front ++ reads.first ∷ (reads.more ++ more.own) in
    record {
      own = own;
      fits = tt;
      found =
          ap (λ l. with_label (label_at l)) (white.anywhere (reads.more ++ more.own))
          ∙ ap with_label (reads.anywhere more.own tt)
          ∙ more.found;
      ends =
          ends_is cs (white.front ++ reads.first ∷ (reads.more ++ label.rest)) own d.rest white.here
          (ends_after white.front (reads.first ∷ (reads.more ++ label.rest)) (reads.first ∷ (reads.more ++ more.own)) d.rest
          (ends_after (reads.first ∷ reads.more) label.rest more.own d.rest more.ends));
    }

-- the codes of a definition's own lines, which say the same alone
pub definition_alone : (cs : List ℕ) (d : Definition) → definition_at cs ≡ Some d
    → (own : List ℕ) × (definition_at own ≡ Some (definition d.label d.destination d.title [])) × EndsLine cs own d.rest
definition_alone cs d h = let again = whole_definition cs d h in (again.own, again.found, again.ends)
