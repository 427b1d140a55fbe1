-- What is left of a page before and after letters and tags.
use Rattle.std.proofs.Common.{◌≡◌, ℕ, List, [], ◌∷◌, ◌++◌, Bool, true, false, not, ◌&&◌, eqb, refl, sym, ap, ◌∙◌, subst, append_assoc}
use Rattle.std.proofs.lemmas.Bool.{false≢true, and_parts, and_from}
use Rattle.html_safe_page.specs.SafePage.{spell_kind, spell_letter, spell_text, Tag, spell_tag, void_end, Items, End, Letter, Void, Element, spell_before}
use Rattle.html_safe_page.proofs.Text.{by_kind, plain_other}
use Rattle.html_safe_page.proofs.Sound.{tag_append}
use Rattle.html_safe_page.proofs.Spelled.{is_word, is_worded_list, is_worded}
use Rattle.html_listed.specs.ListedPage.{have_tags}
use Rattle.html_listed_page.specs.Tags.{lacks, stops_at, IsText}
use Rattle.html_listed_page.specs.Rest.{IsAfter, IsRestWith, in_tag}
use Rattle.html_listed_page.proofs.Cuts.{lacks_back, has_byte, tail, head, one_cut}
use Rattle.html_listed_page.proofs.Texts.{less_spared}
use Rattle.html_listed_page.proofs.Words.{name_lacks, tag_lacks}

-- ---- first bytes

letter_first : (b : ℕ) (x : List ℕ) → eqb (head (spell_letter b ++ x)) 60 ≡ false
letter_first b x =
    by_kind (λ b. eqb (head (spell_letter b ++ x)) 60 ≡ false) refl refl refl refl
    (λ b k. ap (λ kind. eqb (head (spell_kind kind b ++ x)) 60) k ∙ plain_other b 60 k refl) b

-- a letter is no `<`
no_less : {A : Type 0} (b : ℕ) (x y : List ℕ) → spell_letter b ++ x ≡ 60 ∷ y → A
no_less b x y e = absurd (false≢true (sym (letter_first b x) ∙ ap (λ z. eqb (head z) 60) e))

-- a letter is no nothing
abbrev is_nothing : List ℕ → Bool
is_nothing [] = true
is_nothing (b ∷ bs) = false

some_letter : {A : Type 0} (b : ℕ) (x : List ℕ) → spell_letter b ++ x ≡ [] → A
some_letter b x e =
    absurd (false≢true (sym (by_kind (λ b. is_nothing (spell_letter b ++ x) ≡ false) refl refl refl refl
    (λ b k. ap (λ kind. is_nothing (spell_kind kind b ++ x)) k) b) ∙ ap is_nothing e))

-- bytes without `<` that begin other ones which go on with `<` or end
record IsAhead (p l x r : List ℕ) : Type 0 where
  more : List ℕ
  parts : l ≡ p ++ more
  rest : x ≡ more ++ r

ahead : (p l x r : List ℕ) → lacks 60 p ≡ true → stops_at 60 r ≡ true → p ++ x ≡ l ++ r → IsAhead p l x r
ahead [] l x r h s e = record { more = l; parts = refl; rest = e }
ahead (b ∷ bs) [] x [] h s e = let bad : b ∷ (bs ++ x) ≡ [] = e in cc
ahead (b ∷ bs) [] x (c ∷ cs) h s e =
    absurd (false≢true (sym (ap not (ap (λ z. eqb (head z) 60) e ∙ s)) ∙ (and_parts (not (eqb b 60)) (lacks 60 bs) h).0))
ahead (b ∷ bs) (c ∷ cs) x r h s e =
    let more = ahead bs cs x r (and_parts (not (eqb b 60)) (lacks 60 bs) h).1 s (ap tail e) in
    record { more = more.more; parts = ap (λ c. c ∷ cs) (sym (ap head e)) ∙ ap (λ z. b ∷ z) more.parts; rest = more.rest }

module _ (start void : Tag → Bool) where
  -- ---- letters

  -- letters before what may follow
  abbrev IsOff : List (List ℕ) → List ℕ → List ℕ → Type 0
  IsOff ns letters rest = IsText letters × IsRestWith start void ns rest

  same_off : (ns : List (List ℕ)) (b : ℕ) (letters more rest : List ℕ) → letters ≡ spell_letter b ++ more → IsOff ns more rest → IsOff ns letters rest
  same_off ns b letters more rest e h = ((b ∷ h.0.0, ap (λ z. spell_letter b ++ z) h.0.1 ∙ sym e), h.1)

  no_letters : (items : Items) (next : List ℕ) (ns : List (List ℕ)) (y letters rest : List ℕ) → have_tags start void items ≡ true
      → spell_before items next ≡ 60 ∷ y → IsAfter start void ns next → lacks 60 letters ≡ true → spell_before items next ≡ letters ++ rest
      → IsOff ns letters rest
  no_letters items next ns y [] rest h p f l e = (([], refl), record { items = items; next = next; tags = h; spelling = e; follows = f })
  no_letters items next ns y (b ∷ bs) rest h p f l e =
      absurd (false≢true (sym (ap (λ z. not (eqb (head z) 60)) (sym e ∙ p)) ∙ (and_parts (not (eqb b 60)) (lacks 60 bs) l).0))

  no_more : (next : List ℕ) (ns : List (List ℕ)) (letters rest : List ℕ) → IsAfter start void ns next → lacks 60 letters ≡ true → next ≡ letters ++ rest
      → IsOff ns letters rest
  no_more next [] [] rest f l e = (([], refl), record { items = End; next = next; tags = refl; spelling = e; follows = f })
  no_more next [] (b ∷ bs) rest f l e = let bad : [] ≡ b ∷ (bs ++ rest) = sym f ∙ e in cc
  no_more next (n ∷ ns) letters rest f l e = no_letters End next (n ∷ ns) _ letters rest refl (sym f.spelling) f l e

  off_items : (items : Items) (next : List ℕ) (ns : List (List ℕ)) (letters rest : List ℕ) → have_tags start void items ≡ true
      → IsAfter start void ns next → lacks 60 letters ≡ true → stops_at 60 rest ≡ true → spell_before items next ≡ letters ++ rest → IsOff ns letters rest
  off_items End next ns letters rest h f l s e = no_more next ns letters rest f l e
  off_items (Letter b items) next ns letters rest h f l s e =
      let first = ahead (spell_letter b) letters (spell_before items next) rest (less_spared b) s e in
      same_off ns b letters first.more rest first.parts
      (off_items items next ns first.more rest h f (lacks_more b letters first.more first.parts l) s first.rest)
    where
      lacks_more : (b : ℕ) (letters more : List ℕ) → letters ≡ spell_letter b ++ more → lacks 60 letters ≡ true → lacks 60 more ≡ true
      lacks_more b letters more e l = lacks_back 60 (spell_letter b) more (ap (lacks 60) (sym e) ∙ l)
  off_items (Void t items) next ns letters rest h f l s e = no_letters (Void t items) next ns _ letters rest h refl f l e
  off_items (Element t inside items) next ns letters rest h f l s e = no_letters (Element t inside items) next ns _ letters rest h refl f l e

  -- letters are taken off
  pub letters_off : (ns : List (List ℕ)) (letters rest : List ℕ) → lacks 60 letters ≡ true → stops_at 60 rest ≡ true
      → IsRestWith start void ns (letters ++ rest) → IsOff ns letters rest
  letters_off ns letters rest l s h = off_items h.items h.next ns letters rest h.tags h.follows l s h.spelling

  letter_on : (ns : List (List ℕ)) (b : ℕ) (rest : List ℕ) → IsRestWith start void ns rest → IsRestWith start void ns (spell_letter b ++ rest)
  letter_on ns b rest h =
      record { items = Letter b h.items; next = h.next; tags = h.tags; spelling = ap (λ z. spell_letter b ++ z) h.spelling; follows = h.follows }

  text_on : (ns : List (List ℕ)) (text rest : List ℕ) → IsRestWith start void ns rest → IsRestWith start void ns (spell_text text [] ++ rest)
  text_on ns [] rest h = h
  text_on ns (b ∷ bs) rest h =
      subst (IsRestWith start void ns) (sym (append_assoc (spell_letter b) (spell_text bs []) rest))
      (letter_on ns b (spell_text bs [] ++ rest) (text_on ns bs rest h))

  -- and put on
  pub letters_on : (ns : List (List ℕ)) (letters rest : List ℕ) → IsText letters → IsRestWith start void ns rest → IsRestWith start void ns (letters ++ rest)
  letters_on ns letters rest t h = subst (λ z. IsRestWith start void ns (z ++ rest)) t.1 (text_on ns t.0 rest h)

  -- ---- the end of a page

  ends_items : {A : Type 0} (n : List ℕ) (ns : List (List ℕ)) (items : Items) (next : List ℕ) → IsAfter start void (n ∷ ns) next → spell_before items next ≡ []
      → A
  ends_items n ns End next f e = let bad = f.spelling ∙ e in cc
  ends_items n ns (Letter b items) next f e = some_letter b (spell_before items next) e
  ends_items n ns (Void t items) next f e = cc
  ends_items n ns (Element t inside items) next f e = cc

  -- no element is open there
  pub none_open : {A : Type 0} (n : List ℕ) (ns : List (List ℕ)) → IsRestWith start void (n ∷ ns) [] → A
  none_open n ns h = ends_items n ns h.items h.next h.follows h.spelling

  -- ---- tags

  module _ (worded_start : (t : Tag) → start t ≡ true → is_worded t ≡ true) (worded_void : (t : Tag) → void t ≡ true → is_worded t ≡ true) where
    -- what follows a tag that elements can't go on without
    no_end_items : {A : Type 0} (items : Items) (next : List ℕ) (ns : List (List ℕ)) (bytes : List ℕ) → have_tags start void items ≡ true
        → IsAfter start void ns next → lacks 62 bytes ≡ true → spell_before items next ≡ 60 ∷ bytes → A
    no_end_items End next [] bytes h f l e = let bad : [] ≡ 60 ∷ bytes = sym f ∙ e in cc
    no_end_items End next (n ∷ ns) bytes h f l e = has_byte 62 (47 ∷ n) f.rest (ap (lacks 62) (ap tail (f.spelling ∙ e)) ∙ l)
    no_end_items (Letter b items) next ns bytes h f l e = no_less b (spell_before items next) bytes e
    no_end_items (Void t items) next ns bytes h f l e =
        has_byte 62 (spell_tag t void_end) (spell_before items next)
        (ap (lacks 62) (sym (tag_append t void_end (62 ∷ spell_before items next)) ∙ ap tail e) ∙ l)
    no_end_items (Element t inside items) next ns bytes h f l e =
        let after = spell_before inside (60 ∷ 47 ∷ (t.name ++ (62 ∷ spell_before items next))) in
        has_byte 62 (spell_tag t []) after (ap (lacks 62) (sym (tag_append t [] (62 ∷ after)) ∙ ap tail e) ∙ l)

    -- a tag has its `>`
    pub no_end : {A : Type 0} (ns : List (List ℕ)) (bytes : List ℕ) → lacks 62 bytes ≡ true → IsRestWith start void ns (60 ∷ bytes) → A
    no_end ns bytes l h = no_end_items h.items h.next ns bytes h.tags h.follows l h.spelling

    abbrev IfStart : Type 0 → List (List ℕ) → List ℕ → List ℕ → Type 0
    IfStart A ns tag rest = (t : Tag) → start t ≡ true → spell_tag t [] ≡ tag → IsRestWith start void (t.name ∷ ns) rest → A

    abbrev IfVoid : Type 0 → List (List ℕ) → List ℕ → List ℕ → Type 0
    IfVoid A ns tag rest = (t : Tag) → void t ≡ true → spell_tag t void_end ≡ tag → IsRestWith start void ns rest → A

    abbrev IfEnd : Type 0 → List (List ℕ) → List ℕ → List ℕ → Type 0
    IfEnd A ns tag rest = (n : List ℕ) (ms : List (List ℕ)) → n ∷ ms ≡ ns → 47 ∷ n ≡ tag → IsRestWith start void ms rest → A

    step_items : {A : Type 0} (items : Items) (next : List ℕ) (ns : List (List ℕ)) (tag rest : List ℕ) → have_tags start void items ≡ true
        → IsAfter start void ns next → lacks 62 tag ≡ true → spell_before items next ≡ in_tag tag rest
        → IfStart A ns tag rest → IfVoid A ns tag rest → IfEnd A ns tag rest → A
    step_items End next [] tag rest h f l e one two three = let bad : [] ≡ in_tag tag rest = sym f ∙ e in cc
    step_items End next (n ∷ ns) tag rest h f l e one two three =
        let same = one_cut 62 (47 ∷ n) tag (62 ∷ f.rest) (62 ∷ rest) f.one_tag l refl refl (ap tail (f.spelling ∙ e)) in
        three n ns refl same.0 (subst (IsRestWith start void ns) (ap tail same.1) f.follows)
    step_items (Letter b items) next ns tag rest h f l e one two three = no_less b (spell_before items next) (tag ++ (62 ∷ rest)) e
    step_items (Void t items) next ns tag rest h f l e one two three =
        let parts = and_parts (void t) (have_tags start void items) h in
        let after = spell_before items next in
        let same = one_cut 62 (spell_tag t void_end) tag (62 ∷ after) (62 ∷ rest) (tag_lacks t void_end (worded_void t parts.0) refl) l refl refl
        (sym (tag_append t void_end (62 ∷ after)) ∙ ap tail e) in
        two t parts.0 same.0 (record { items = items; next = next; tags = parts.1; spelling = ap tail same.1; follows = f })
    step_items (Element t inside items) next ns tag rest h f l e one two three =
        let parts = and_parts (start t) (have_tags start void inside && have_tags start void items) h in
        let both = and_parts (have_tags start void inside) (have_tags start void items) parts.1 in
        let after = spell_before items next in
        let within = 60 ∷ 47 ∷ (t.name ++ (62 ∷ after)) in
        let worded = worded_start t parts.0 in
        let same = one_cut 62 (spell_tag t []) tag (62 ∷ spell_before inside within) (62 ∷ rest) (tag_lacks t [] worded refl) l refl refl
        (sym (tag_append t [] (62 ∷ spell_before inside within)) ∙ ap tail e) in
        one t parts.0 same.0
        (record {
          items = inside;
          next = within;
          tags = both.0;
          spelling = ap tail same.1;
          follows = record {
            rest = after;
            one_tag = name_lacks 62 refl t.name (and_parts (is_word t.name) (is_worded_list t.attributes) worded).0;
            spelling = refl;
            follows = record { items = items; next = next; tags = both.1; spelling = refl; follows = f };
          };
        })

    -- a tag is a start tag, a void tag, or the end tag of the innermost element
    pub step : {A : Type 0} (ns : List (List ℕ)) (tag rest : List ℕ) → lacks 62 tag ≡ true → IsRestWith start void ns (in_tag tag rest)
        → IfStart A ns tag rest → IfVoid A ns tag rest → IfEnd A ns tag rest → A
    step ns tag rest l h one two three = step_items h.items h.next ns tag rest h.tags h.follows l h.spelling one two three

  -- ---- tags that may stand

  pub with_start : (ns : List (List ℕ)) (t : Tag) (tag rest : List ℕ) → start t ≡ true → spell_tag t [] ≡ tag → IsRestWith start void (t.name ∷ ns) rest
      → IsRestWith start void ns (in_tag tag rest)
  with_start ns t tag rest h e r =
      let end = r.follows in
      let after = end.follows in
      record {
        items = Element t r.items after.items;
        next = after.next;
        tags = and_from (start t) (have_tags start void r.items && have_tags start void after.items) h
            (and_from (have_tags start void r.items) (have_tags start void after.items) r.tags after.tags);
        spelling =
            ap (λ z. 60 ∷ spell_tag t (62 ∷ spell_before r.items (60 ∷ 47 ∷ (t.name ++ (62 ∷ z))))) after.spelling
            ∙ ap (λ z. 60 ∷ spell_tag t (62 ∷ spell_before r.items z)) end.spelling
            ∙ ap (λ z. 60 ∷ spell_tag t (62 ∷ z)) r.spelling
            ∙ ap (λ z. 60 ∷ z) (tag_append t [] (62 ∷ rest))
            ∙ ap (λ z. in_tag z rest) e;
        follows = after.follows;
      }

  pub with_void : (ns : List (List ℕ)) (t : Tag) (tag rest : List ℕ) → void t ≡ true → spell_tag t void_end ≡ tag → IsRestWith start void ns rest
      → IsRestWith start void ns (in_tag tag rest)
  with_void ns t tag rest h e r = record {
    items = Void t r.items;
    next = r.next;
    tags = and_from (void t) (have_tags start void r.items) h r.tags;
    spelling =
        ap (λ z. 60 ∷ spell_tag t (void_end ++ (62 ∷ z))) r.spelling
        ∙ ap (λ z. 60 ∷ z) (tag_append t void_end (62 ∷ rest))
        ∙ ap (λ z. in_tag z rest) e;
    follows = r.follows;
  }

  pub with_end : (n : List ℕ) (ns : List (List ℕ)) (rest : List ℕ) → lacks 62 n ≡ true → IsRestWith start void ns rest
      → IsRestWith start void (n ∷ ns) (in_tag (47 ∷ n) rest)
  with_end n ns rest l r = record {
    items = End;
    next = in_tag (47 ∷ n) rest;
    tags = refl;
    spelling = refl;
    follows = record { rest = rest; one_tag = l; spelling = refl; follows = r };
  }
