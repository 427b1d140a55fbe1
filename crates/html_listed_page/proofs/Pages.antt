-- What a tag leads to in a listed page.
use Rattle.std.proofs.Common.{◌≡◌, ◌≢◌, ◌↔◌, ℕ, List, [], ◌∷◌, ◌++◌, Bool, true, false, eqb, refl, sym, ap, ◌∙◌, subst, append_assoc}
use Rattle.std.specs.Str.{bytes_eq}
use Rattle.std.proofs.lemmas.Bool.{true≢false, false≢true, and_parts}
use Rattle.std.proofs.lemmas.List.{append-nil}
use Rattle.html_safe_page.specs.SafePage.{Attribute, spell_attributes, Tag, spell_tag, void_end, End, spell_before}
use Rattle.html_safe_page.specs.declared.table.TagTable.{TagTable}
use Rattle.html_safe_page.proofs.Sound.{tag_append}
use Rattle.html_safe_page.proofs.Spelled.{is_word, is_worded_list, is_worded, starts_word, same_bytes, bytes_same}
use Rattle.html_listed.specs.ListedPage.{is_start, is_void, IsListedPage}
use Rattle.html_listed_page.specs.Tags.{lacks, stops_at, IsCut, IsText, IsTagOf}
use Rattle.html_listed_page.specs.Rest.{IsRest, Leads, in_tag}
use Rattle.html_listed_page.proofs.Cuts.{tail, one_cut, same_front, last, last_after}
use Rattle.html_listed.proofs.Words.{tag_starts, start_is_worded, void_is_worded}
use Rattle.html_listed_page.proofs.Words.{name_lacks, last_of_tag}
use Rattle.html_listed_page.proofs.Rests.{step, no_end, none_open, letters_off, letters_on, with_start, with_void, with_end}

-- ---- tags that differ

pub no_slash : {A : Type 0} (t : Tag) (x name : List ℕ) → is_worded t ≡ true → spell_tag t x ≡ 47 ∷ name → A
no_slash t x name h e = absurd (true≢false (sym (tag_starts t x h) ∙ ap starts_word e))

-- a void tag before its ending
pub void_spelled : (t : Tag) → spell_tag t void_end ≡ spell_tag t [] ++ void_end
void_spelled t = tag_append t [] void_end

-- a start tag ends otherwise
pub no_start : {A : Type 0} (t : Tag) (inside : List ℕ) → is_worded t ≡ true → spell_tag t [] ≡ inside ++ void_end → A
no_start t inside h e =
    absurd (true≢false (sym (ap (λ b. eqb b 47) (last_after inside 32 (47 ∷ []))) ∙ ap (λ x. eqb (last x) 47) (sym e) ∙ last_of_tag t h))

-- what stands before the ending of a void tag
pub before_end : (x y : List ℕ) → x ++ void_end ≡ y ++ void_end → x ≡ y
before_end x y e =
    same_front 32 x y (same_front 47 (x ++ 32 ∷ []) (y ++ 32 ∷ [])
    (append_assoc x (32 ∷ []) (47 ∷ []) ∙ e ∙ sym (append_assoc y (32 ∷ []) (47 ∷ []))))

attributes_stop : (attributes : List Attribute) → stops_at 32 (spell_attributes attributes []) ≡ true
attributes_stop [] = refl
attributes_stop (a ∷ others) = refl

-- the name that a tag is cut after
pub name_found : (t : Tag) (tag name rest : List ℕ) → is_worded t ≡ true → spell_tag t [] ≡ tag → IsCut 32 tag name rest
    → (t.name ≡ name) × (spell_attributes t.attributes [] ≡ rest)
name_found t tag name rest h e cut =
    one_cut 32 t.name name (spell_attributes t.attributes []) rest
    (name_lacks 32 refl t.name (and_parts (is_word t.name) (is_worded_list t.attributes) h).0) cut.before_lacks (attributes_stop t.attributes) cut.after_stops
    (e ∙ sym cut.parts)

-- ---- names

abbrev others : List (List ℕ) → List (List ℕ)
others [] = []
others (n ∷ ns) = ns

abbrev innermost : List (List ℕ) → List ℕ
innermost [] = []
innermost (n ∷ ns) = n

module _ (table : TagTable) where
  abbrev worded_start : (t : Tag) → is_start table t ≡ true → is_worded t ≡ true
  worded_start t h = start_is_worded table t h

  abbrev worded_void : (t : Tag) → is_void table t ≡ true → is_worded t ≡ true
  worded_void t h = void_is_worded table t h

  -- ---- end tags

  pub end_leads : (name n : List ℕ) (ns : List (List ℕ)) (t : Bool) → t ≡ bytes_eq name n → lacks 62 (47 ∷ name) ≡ true → Leads table t (47 ∷ name) (n ∷ ns) ns
  end_leads name n ns true e l =
      let same : name ≡ n = same_bytes name n (sym e) in
      λ rest. (
        λ h. step (is_start table) (is_void table) worded_start worded_void (n ∷ ns) (47 ∷ name) rest l h
            (λ t k j _. no_slash t [] name (worded_start t k) j)
            (λ t k j _. no_slash t void_end name (worded_void t k) j)
            (λ m ms k _ r. subst (λ x. IsRest table x rest) (ap others k) r),
        λ r. subst (λ m. IsRest table (m ∷ ns) (in_tag (47 ∷ name) rest)) same (with_end (is_start table) (is_void table) name ns rest l r),
      )
  end_leads name n ns false e l =
      λ rest h. step (is_start table) (is_void table) worded_start worded_void (n ∷ ns) (47 ∷ name) rest l h
      (λ t k j _. no_slash t [] name (worded_start t k) j)
      (λ t k j _. no_slash t void_end name (worded_void t k) j)
      (λ m ms k j _. false≢true (e ∙ ap (λ x. bytes_eq name x) (sym (ap innermost k) ∙ ap tail j) ∙ bytes_same name))

  pub unopened : (name : List ℕ) (ns : List (List ℕ)) → lacks 62 (47 ∷ name) ≡ true → Leads table false (47 ∷ name) [] ns
  unopened name ns l =
      λ rest h. step (is_start table) (is_void table) worded_start worded_void [] (47 ∷ name) rest l h
      (λ t k j _. no_slash t [] name (worded_start t k) j)
      (λ t k j _. no_slash t void_end name (worded_void t k) j)
      (λ m ms k _ _. cc)

  -- ---- void tags

  pub void_leads : (ns : List (List ℕ)) (tag inside : List ℕ) (t : Bool) → lacks 62 tag ≡ true → ((name : List ℕ) → tag ≢ 47 ∷ name)
      → tag ≡ inside ++ void_end → (t ≡ true) ↔ IsTagOf (is_void table) [] inside → Leads table t tag ns ns
  void_leads ns tag inside true l no_end_tag e h =
      let v = h.0 refl in
      λ rest. (
        λ r. step (is_start table) (is_void table) worded_start worded_void ns tag rest l r
            (λ u k j _. no_start u inside (worded_start u k) (j ∙ e))
            (λ u _ _ s. s)
            (λ m ms _ j _. absurd (no_end_tag m (sym j))),
        λ r. with_void (is_start table) (is_void table) ns v.tag tag rest v.passes
            (void_spelled v.tag ∙ ap (λ z. z ++ void_end) v.spelling ∙ sym e) r,
      )
  void_leads ns tag inside false l no_end_tag e h =
      λ rest r. step (is_start table) (is_void table) worded_start worded_void ns tag rest l r
      (λ u k j _. no_start u inside (worded_start u k) (j ∙ e))
      (λ u k j _. false≢true (h.1 (record {
        tag = u;
        passes = k;
        spelling = before_end (spell_tag u []) inside (sym (void_spelled u) ∙ j ∙ e);
      })))
      (λ m ms _ j _. no_end_tag m (sym j))

  -- ---- start tags

  pub start_leads : (ns : List (List ℕ)) (tag name rest : List ℕ) → lacks 62 tag ≡ true → ((name : List ℕ) → tag ≢ 47 ∷ name)
      → ((front : List ℕ) → tag ≢ front ++ void_end) → IsCut 32 tag name rest → IsTagOf (is_start table) [] tag → Leads table true tag ns (name ∷ ns)
  start_leads ns tag name after l no_end_tag no_void cut v =
      let same = (name_found v.tag tag name after (worded_start v.tag v.passes) v.spelling cut).0 in
      λ rest. (
        λ r. step (is_start table) (is_void table) worded_start worded_void ns tag rest l r
            (λ u k j s. subst (λ m. IsRest table (m ∷ ns) rest) (name_found u tag name after (worded_start u k) j cut).0 s)
            (λ u k j _. absurd (no_void (spell_tag u []) (sym j ∙ void_spelled u)))
            (λ m ms _ j _. absurd (no_end_tag m (sym j))),
        λ r. with_start (is_start table) (is_void table) ns v.tag tag rest v.passes v.spelling (subst (λ m. IsRest table (m ∷ ns) rest) (sym same) r),
      )

  pub no_start_leads : (ns ms : List (List ℕ)) (tag : List ℕ) → lacks 62 tag ≡ true → ((name : List ℕ) → tag ≢ 47 ∷ name)
      → ((front : List ℕ) → tag ≢ front ++ void_end) → (IsTagOf (is_start table) [] tag → ⊥) → Leads table false tag ns ms
  no_start_leads ns ms tag l no_end_tag no_void none =
      λ rest r. step (is_start table) (is_void table) worded_start worded_void ns tag rest l r
      (λ u k j _. none (record { tag = u; passes = k; spelling = j }))
      (λ u k j _. no_void (spell_tag u []) (sym j ∙ void_spelled u))
      (λ m ms _ j _. no_end_tag m (sym j))

  -- ---- the page

  pub page_rest : (page : List ℕ) → IsRest table [] page ↔ IsListedPage table page
  page_rest page = (
    λ h. (h.items, (h.tags, ap (λ z. spell_before h.items z) (sym h.follows) ∙ h.spelling)),
    λ p. record { items = p.0; next = []; tags = p.1.0; spelling = p.1.1; follows = refl },
  )

  -- a page goes on after letters and a tag
  pub goes_on : (ns ms : List (List ℕ)) (rest letters after tag next page : List ℕ) → rest ≡ letters ++ (60 ∷ after) → lacks 60 letters ≡ true
      → IsText letters → after ≡ tag ++ (62 ∷ next) → Leads table true tag ns ms → IsRest table ns rest ↔ IsListedPage table page
      → IsRest table ms next ↔ IsListedPage table page
  goes_on ns ms rest letters after tag next page e l t k leads h =
      let tagged = λ (z : List ℕ). IsRest table ns (60 ∷ z) in (
        λ r. h.0 (subst (IsRest table ns) (sym e)
            (letters_on (is_start table) (is_void table) ns letters (60 ∷ after) t (subst tagged (sym k) ((leads next).1 r)))),
        λ p. (leads next).0 (subst tagged k
            (letters_off (is_start table) (is_void table) ns letters (60 ∷ after) l refl (subst (IsRest table ns) e (h.1 p))).1),
      )

  -- it doesn't where the letters are none
  pub no_letters : {A : Type 0} (ns : List (List ℕ)) (rest letters after page : List ℕ) → rest ≡ letters ++ (60 ∷ after) → lacks 60 letters ≡ true
      → (IsText letters → ⊥) → IsRest table ns rest ↔ IsListedPage table page → IsListedPage table page → A
  no_letters ns rest letters after page e l t h p =
      absurd (t (letters_off (is_start table) (is_void table) ns letters (60 ∷ after) l refl (subst (IsRest table ns) e (h.1 p))).0)

  -- nor where the tag has no end
  pub no_tag_end : {A : Type 0} (ns : List (List ℕ)) (rest letters after page : List ℕ) → rest ≡ letters ++ (60 ∷ after) → lacks 60 letters ≡ true
      → lacks 62 after ≡ true → IsRest table ns rest ↔ IsListedPage table page → IsListedPage table page → A
  no_tag_end ns rest letters after page e l k h p =
      no_end (is_start table) (is_void table) worded_start worded_void ns after k
      (letters_off (is_start table) (is_void table) ns letters (60 ∷ after) l refl (subst (IsRest table ns) e (h.1 p))).1

  -- nor where the tag can't stand
  pub no_tag : {A : Type 0} (ns ms : List (List ℕ)) (rest letters after tag next page : List ℕ) → rest ≡ letters ++ (60 ∷ after) → lacks 60 letters ≡ true
      → after ≡ tag ++ (62 ∷ next) → Leads table false tag ns ms → IsRest table ns rest ↔ IsListedPage table page → IsListedPage table page → A
  no_tag ns ms rest letters after tag next page e l k leads h p =
      absurd (leads next (subst (λ z. IsRest table ns (60 ∷ z)) k
      (letters_off (is_start table) (is_void table) ns letters (60 ∷ after) l refl (subst (IsRest table ns) e (h.1 p))).1))

  -- where no tag is left, no element may be open
  pub still_open : {A : Type 0} (ns : List (List ℕ)) (rest page : List ℕ) → (ns ≡ [] → ⊥) → lacks 60 rest ≡ true
      → IsRest table ns rest ↔ IsListedPage table page → IsListedPage table page → A
  still_open [] rest page some l h p = absurd (some refl)
  still_open (n ∷ ns) rest page some l h p =
      none_open (is_start table) (is_void table) n ns
      (letters_off (is_start table) (is_void table) (n ∷ ns) rest [] l refl (subst (IsRest table (n ∷ ns)) (sym (append-nil rest)) (h.1 p))).1

  -- and letters are left
  pub at_last : (rest page : List ℕ) → lacks 60 rest ≡ true → IsRest table [] rest ↔ IsListedPage table page → IsText rest ↔ IsListedPage table page
  at_last rest page l h = (
    λ t. h.0 (subst (IsRest table []) (append-nil rest)
        (letters_on (is_start table) (is_void table) [] rest [] t (record { items = End; next = []; tags = refl; spelling = refl; follows = refl }))),
    λ p. (letters_off (is_start table) (is_void table) [] rest [] l refl (subst (IsRest table []) (sym (append-nil rest)) (h.1 p))).0,
  )
