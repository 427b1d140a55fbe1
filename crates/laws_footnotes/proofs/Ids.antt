-- The ids of headings differ.
use Rattle.std.proofs.Common.{◌≡◌, ◌<◌, ◌+◌, ◌^◌, ◌⊎◌, inl, inr, ℕ, Option, None, Some, Bool, true, false, cond, ◌||◌, List, [], ◌∷◌, ◌++◌, length, take}
use Rattle.std.proofs.Common.{map, refl, sym, ap, subst, ◌∙◌, append_assoc, append-nil, arith}
use Rattle.std.specs.Prelude.{◌≢◌, codes, not}
use Rattle.std.specs.List.{All, filter, IsDistinct, AllByRecursion}
use Rattle.std.specs.Str.{bytes_eq}
use Rattle.std.proofs.Math.Seq.{take-append_seam}
use Rattle.std.proofs.lemmas.Bool.{or_parts, false_from_ne_true, false≢true}
use Rattle.std.proofs.lemmas.List.{append_cancel_left, length-append}
use Rattle.std.proofs.lemmas.List.Elements.{All-nil, All-cons}
use Rattle.std.proofs.lemmas.List.Folds.{list_any-append}
use Rattle.std.proofs.lemmas.Map.Keys.{IsDistinct-cons}
use Rattle.std.proofs.lemmas.Slice.Eq.{bytes_eq-Decides}
use Rattle.markdown_compile_options.specs.declared.configuration.CompileOptions.{CompileOptions}
use Rattle.definition_text.specs.Bytes.{begins_with}
use Rattle.definition_text.proofs.Each.{Each}
use Rattle.definition_inline.specs.LabelMatch.{normal_label, first_match}
use Rattle.definition_page.specs.Destinations.{heading_prefix}
use Rattle.definition_page.specs.GfmLabelStartFootnote.{id_prefix, count_says}
use Rattle.definition_page.specs.HeadingIds.{is_note_id, id_attributes, with_ids}
use Rattle.definition_page.specs.InlinePieces.{Meaning, call_at, count_at}
use Rattle.definition_page.specs.Slug.{is_taken, slug_of, next_slug, with_slug}
use Rattle.definition_page.specs.Tags.{Words, Attribute}
use Rattle.definition_page.specs.Pieces.{Piece, Open, Void, Named}
use Rattle.definition_page.specs.Urls.{percent}
use Rattle.definition_page.specs.BlockPieces.{at_top, fresh_unless, children_pieces}
use Rattle.definition_page.specs.DocumentPieces.{meaning_of}
use Rattle.definition_page.proofs.FreeSlugs.{first_free_new}
use Rattle.definition_page.proofs.PagePieces.{IsNoId, HasNoId, PiecesGood, Prints, any_blocks, named_page_good}
use Rattle.laws_footnotes.specs.Ids.{value_text, ids_among, ids_in, headings_in, IsOfNoNote, IdsDifferLaw}

-- ---- attributes

no_ids : (attributes : List Attribute) → Each IsNoId attributes → ids_among attributes ≡ []
no_ids [] h = refl
no_ids (a ∷ attributes) h =
    let others = filter (λ (b : Attribute). bytes_eq b.name (codes "id")) attributes in
    ap (λ is. map (λ (b : Attribute). value_text b.value) (cond is (a ∷ others) others)) h.0 ∙ no_ids attributes h.1

-- ---- the pieces of a page have no ids of their own

abbrev IsIdless : Piece → Type 0
IsIdless (Open t) = HasNoId t
IsIdless (Void t) = HasNoId t
IsIdless (Named t text) = HasNoId t
IsIdless piece = Unit {0}

call_idless : (found : Option ℕ) (label : List ℕ) → PiecesGood IsIdless (call_at found label)
call_idless None label = tt
call_idless (Some place) label = (tt, tt)

count_idless : (found : Option ℕ) (label : List ℕ) → PiecesGood IsIdless (count_at found label)
count_idless None label = tt
count_idless (Some place) label = (tt, tt)

idless : (m : Meaning) → Prints IsIdless m
idless m =
    record {
      opens = λ t own. own;
      closes = λ name. tt;
      voids = λ t own. own;
      said = λ part. tt;
      eol = tt;
      fresh = tt;
      names = λ on t text own. own;
      calls = λ label. call_idless (first_match label m.footnotes) (normal_label label);
      counts = λ label. count_idless (first_match label m.footnotes) (normal_label label);
    }

-- ---- the id of a heading

module _ (options : CompileOptions) where
  abbrev prefix : List ℕ
  prefix = heading_prefix options

  -- a heading has no id, or its prefix and its slug, which is no footnote's
  abbrev OneId : List ℕ → List Attribute → Type 0
  OneId slug attributes = (ids_among attributes ≡ []) ⊎ ((ids_among attributes ≡ (prefix ++ slug) ∷ []) × (is_note_id options (prefix ++ slug) ≡ false))

  abbrev id_by : Bool → List ℕ → List Attribute
  id_by note slug = cond note [] (record { name = codes "id"; value = Words prefix ∷ Words slug ∷ [] } ∷ [])

  one_by : (b : ℕ) (bs : List ℕ) (own : List Attribute) → Each IsNoId own → (note : Bool) → is_note_id options (prefix ++ b ∷ bs) ≡ note
      → OneId (b ∷ bs) (id_attributes options (b ∷ bs) ++ own)
  one_by b bs own h true e = inl (ap (λ note. ids_among (id_by note (b ∷ bs) ++ own)) e ∙ no_ids own h)
  one_by b bs own h false e =
      let here : ids_among (id_by false (b ∷ bs) ++ own) ≡ (prefix ++ ((b ∷ bs) ++ [])) ∷ ids_among own = refl in
      let alone : (prefix ++ ((b ∷ bs) ++ [])) ∷ ids_among own ≡ (prefix ++ (b ∷ bs)) ∷ [] =
      ap (λ ids. (prefix ++ ((b ∷ bs) ++ [])) ∷ ids) (no_ids own h) ∙ ap (λ slug. (prefix ++ slug) ∷ []) (append-nil (b ∷ bs)) in
      inr (ap (λ note. ids_among (id_by note (b ∷ bs) ++ own)) e ∙ here ∙ alone, e)

  one_id : (slug : List ℕ) (own : List Attribute) → Each IsNoId own → OneId slug (id_attributes options slug ++ own)
  one_id [] own h = inl (no_ids own h)
  one_id (b ∷ bs) own h = one_by b bs own h (is_note_id options (prefix ++ b ∷ bs)) refl

  -- ---- ids that differ

  -- an id of a slug that isn't taken, and of no footnote
  record IsNew (taken : List (List ℕ)) (id : List ℕ) : Type 0 where
    pub slug : List ℕ
    pub named : id ≡ prefix ++ slug
    pub free : is_taken taken slug ≡ false
    pub no_note : is_note_id options id ≡ false

  record AreNew (taken ids : List (List ℕ)) : Type 0 where
    pub distinct : IsDistinct bytes_eq ids
    pub new : Each (IsNew taken) ids

  none_new : (taken : List (List ℕ)) → AreNew taken []
  unfolding IsDistinct
  none_new taken = record { distinct = tt; new = tt }

  -- a slug that is free though one more is taken
  free_parts : (taken : List (List ℕ)) (more slug : List ℕ) → is_taken (taken ++ more ∷ []) slug ≡ false
      → (is_taken taken slug ≡ false) × (bytes_eq slug more ≡ false)
  free_parts taken more slug free =
      let parts = or_parts (is_taken taken slug) (bytes_eq slug more || false) (sym (list_any-append (bytes_eq slug) taken (more ∷ [])) ∙ free) in
      (parts.0, (or_parts (bytes_eq slug more) false parts.1).0)

  still_new : (taken : List (List ℕ)) (more : List ℕ) (ids : List (List ℕ)) → Each (IsNew (taken ++ more ∷ [])) ids → Each (IsNew taken) ids
  still_new taken more [] h = tt
  still_new taken more (id ∷ ids) h = (
    record { slug = h.0.slug; named = h.0.named; free = (free_parts taken more h.0.slug h.0.free).0; no_note = h.0.no_note },
    still_new taken more ids h.1,
  )

  apart : (taken : List (List ℕ)) (slug : List ℕ) (ids : List (List ℕ)) → Each (IsNew (taken ++ slug ∷ [])) ids
      → AllByRecursion (λ id. bytes_eq (prefix ++ slug) id ≡ false) ids
  apart taken slug [] h = tt
  apart taken slug (id ∷ ids) h = (
    false_from_ne_true (bytes_eq (prefix ++ slug) id) (λ same.
        let equal : slug ≡ h.0.slug = append_cancel_left prefix slug h.0.slug ((bytes_eq-Decides (prefix ++ slug) id).0 same ∙ h.0.named) in
        false≢true (sym (free_parts taken slug h.0.slug h.0.free).1 ∙ (bytes_eq-Decides h.0.slug slug).1 (sym equal))),
    apart taken slug ids h.1,
  )

  -- the ids of later headings, after that of one
  one_more : (taken : List (List ℕ)) (slug : List ℕ) (own : List Attribute) (ids : List (List ℕ)) → is_taken taken slug ≡ false
      → OneId slug own → AreNew (taken ++ slug ∷ []) ids → AreNew taken (ids_among own ++ ids)
  one_more taken slug own ids free (inl none) h =
      subst (λ here. AreNew taken (here ++ ids)) (sym none) (record { distinct = h.distinct; new = still_new taken slug ids h.new })
  one_more taken slug own ids free (inr one) h =
      subst (λ here. AreNew taken (here ++ ids)) (sym one.0) (record {
        distinct = IsDistinct-cons bytes_eq (prefix ++ slug) ids (apart taken slug ids h.new) h.distinct;
        new = (record { slug = slug; named = refl; free = free; no_note = one.1 }, still_new taken slug ids h.new);
      })

  no_more : (taken : List (List ℕ)) (own : List Attribute) (ids : List (List ℕ)) → Each IsNoId own → AreNew taken ids → AreNew taken (ids_among own ++ ids)
  no_more taken own ids h new = subst (λ here. AreNew taken (here ++ ids)) (sym (no_ids own h)) new

  ids_differ : (taken : List (List ℕ)) (ps : List Piece) → length taken + headings_in ps < 2 ^ 64 → Each IsIdless ps
      → AreNew taken (ids_in (with_ids options taken ps))
  ids_differ taken [] small h = none_new taken
  ids_differ taken (Open t ∷ ps) small h = no_more taken t.attributes (ids_in (with_ids options taken ps)) h.0 (ids_differ taken ps small h.1)
  ids_differ taken (Void t ∷ ps) small h = no_more taken t.attributes (ids_in (with_ids options taken ps)) h.0 (ids_differ taken ps small h.1)
  ids_differ taken (Named t text ∷ ps) small h =
      let slug = next_slug taken text in
      let size = length-append taken (slug ∷ []) in
      one_more taken slug (id_attributes options slug ++ t.attributes) (ids_in (with_ids options (with_slug taken text) ps))
      (first_free_new taken (slug_of text) (omega arith)) (one_id slug t.attributes h.0)
      (ids_differ (with_slug taken text) ps (omega arith) h.1)
  ids_differ taken (p ∷ ps) small h = ids_differ taken ps small h.1

  -- ---- ids of footnotes

  begins : (front rest : List ℕ) → begins_with front (front ++ rest) ≡ true
  begins front rest = (bytes_eq-Decides front (take (length front) (front ++ rest))).1 (sym (take-append_seam front rest))

  -- an id that begins as those of footnotes do
  behind : (id middle rest : List ℕ) → begins_with (id_prefix options ++ middle) id ≡ false → id ≢ id_prefix options ++ (middle ++ rest)
  behind id middle rest h same =
      let front = id_prefix options ++ middle in
      false≢true (sym h ∙ ap (begins_with front) (same ∙ sym (append_assoc (id_prefix options) middle rest)) ∙ begins front rest)

  of_no_note : (id : List ℕ) → is_note_id options id ≡ false → IsOfNoNote options id
  of_no_note id h =
      let heading = bytes_eq id (codes "footnote-label") in
      let note = begins_with (id_prefix options ++ codes "fn-") id in
      let call = begins_with (id_prefix options ++ codes "fnref-") id in
      let parts = or_parts (heading || note) call h in
      let others = or_parts heading note parts.0 in (
        (λ same. false≢true (sym others.0 ∙ (bytes_eq-Decides id (codes "footnote-label")).1 same)),
        (λ label. behind id (codes "fn-") (percent label ++ []) others.1),
        (λ label count. behind id (codes "fnref-") (percent label ++ value_text (count_says count)) parts.1),
      )

  all_of_no_note : (taken ids : List (List ℕ)) → Each (IsNew taken) ids → All (IsOfNoNote options) ids
  all_of_no_note taken [] h = All-nil (IsOfNoNote options)
  all_of_no_note taken (id ∷ ids) h =
      All-cons (IsOfNoNote options) id ids (of_no_note id h.0.no_note) (all_of_no_note taken ids h.1)

-- ---- the law

-- a fresh line is no heading
headings_kept : (ps : List Piece) (said : Bool) → headings_in (ps ++ fresh_unless said) ≡ headings_in ps
headings_kept [] true = refl
headings_kept [] false = refl
headings_kept (Named t text ∷ ps) said = ap (λ n. 1 + n) (headings_kept ps said)
headings_kept (p ∷ ps) said = headings_kept ps said

pub ids_differ_law : IdsDifferLaw
ids_differ_law tables options page small =
    let m = meaning_of tables options page in
    let own = children_pieces m at_top None page.blocks in
    let said = not page.ends_blank in
    let all = own ++ fresh_unless said in
    let count = headings_kept own said in
    let idless_all = named_page_good IsIdless m (idless m) _ (any_blocks IsIdless tt tt) page.blocks said tt in
    let new = ids_differ options.compile [] all (omega arith) idless_all in
    (new.distinct, all_of_no_note options.compile [] (ids_in (with_ids options.compile [] all)) new.new)
