-- Pieces of a page with another line ending in place of each LF.
use Rattle.std.proofs.Common.{◌≡◌, ℕ, Bool, true, false, cond, List, [], ◌∷◌, ◌++◌, refl, sym, ap, ◌∙◌, map, fold, append_assoc, append-nil, flat_map, subst}
use Rattle.std.proofs.Common.{◌⊎◌, inl, inr}
use Rattle.laws_endings.proofs.Prelude.{ArePlain, Attribute, attribute_bytes, bare_tag, Close, flat_map-append, codes, CompileOptions, element}
use Rattle.laws_endings.proofs.Prelude.{ending_bytes, Eol, fold-append, Fresh}
use Rattle.laws_endings.proofs.Prelude.{HaveNoFeeds, is_fresh, layout, LineEnding, map-append, named_calls, NamedCall, Open, Piece, print, PrintedPart}
use Rattle.laws_endings.proofs.Prelude.{said_bytes, Says, tag, Void, with_calls, with_ending}
use Rattle.markdown_options.specs.declared.line_ending.LineEnding.TheVariants.{LineFeed}
use Rattle.definition_page.specs.Tags.{tag_bytes, start_tag, end_tag, void_tag}
use Rattle.definition_text.proofs.Each.{each_map}
use Rattle.definition_page.specs.Pieces.{NoteStart, NoteEnd, Named}
use Rattle.definition_page.specs.HeadingIds.{with_ids, id_attributes}
use Rattle.definition_page.specs.Slug.{next_slug}
use Rattle.definition_page.proofs.HeadingIds.{taken_after, taken_append, ids_append, IsUnnamed, AreUnnamed, unnamed_ids, unnamed_taken}
use Rattle.definition_page.proofs.PlainLayout.{plain_calls, uncalled_shown}
use Rattle.definition_page.proofs.Cuts.{calls_append, shown_append, Cut, cut_plain, cut_append, cut_note}
use Rattle.laws_endings.proofs.Bytes.{fresh-with}
use Rattle.laws_endings.proofs.Saids.{SaidWith, SaidsWith, then-with}

module _ (e : LineEnding) where
  -- ---- tags

  -- tags that are printed with these bytes
  abbrev pub BytesWith : List ℕ → List ℕ → Type 0
  BytesWith other one = other ≡ with_ending e one

  abbrev pub AttributesWith : List Attribute → List Attribute → Type 0
  AttributesWith others ones = BytesWith (flat_map attribute_bytes others) (flat_map attribute_bytes ones)

  pub attribute-with : (name : List ℕ) (value' value : List PrintedPart) → BytesWith name name → SaidsWith e value' value
      → BytesWith (attribute_bytes (record { name = name; value = value' })) (attribute_bytes (record { name = name; value = value }))
  attribute-with name value' value p q =
      let start = codes " " ++ name in
      let quote = start ++ codes "=\"" in
      let said' = flat_map said_bytes value' in
      let said = flat_map said_bytes value in
      then-with e (quote ++ said') (quote ++ said) (codes "\"") (codes "\"")
      (then-with e quote quote said' said
      (then-with e start start (codes "=\"") (codes "=\"") (then-with e (codes " ") (codes " ") name name refl p) refl) q) refl

  pub more_attributes : (a' a : Attribute) (others' others : List Attribute) → BytesWith (attribute_bytes a') (attribute_bytes a)
      → AttributesWith others' others → AttributesWith (a' ∷ others') (a ∷ others)
  more_attributes a' a others' others p q =
      then-with e (attribute_bytes a') (attribute_bytes a) (flat_map attribute_bytes others') (flat_map attribute_bytes others) p q

  tag-with : (name : List ℕ) (others ones : List Attribute) → BytesWith name name → AttributesWith others ones
      → BytesWith (tag_bytes (tag name others)) (tag_bytes (tag name ones))
  tag-with name others ones p q = then-with e name name (flat_map attribute_bytes others) (flat_map attribute_bytes ones) p q

  pub start-with : (name : List ℕ) (others ones : List Attribute) → BytesWith name name → AttributesWith others ones
      → BytesWith (start_tag (tag name others)) (start_tag (tag name ones))
  start-with name others ones p q =
      let other = tag_bytes (tag name others) in
      let one = tag_bytes (tag name ones) in
      then-with e (codes "<" ++ other) (codes "<" ++ one) (codes ">") (codes ">")
      (then-with e (codes "<") (codes "<") other one refl (tag-with name others ones p q)) refl

  pub void-with : (name : List ℕ) (others ones : List Attribute) → BytesWith name name → AttributesWith others ones
      → BytesWith (void_tag (tag name others)) (void_tag (tag name ones))
  void-with name others ones p q =
      let other = tag_bytes (tag name others) in
      let one = tag_bytes (tag name ones) in
      then-with e (codes "<" ++ other) (codes "<" ++ one) (codes " />") (codes " />")
      (then-with e (codes "<") (codes "<") other one refl (tag-with name others ones p q)) refl

  pub end-with : (name : List ℕ) → BytesWith name name → BytesWith (end_tag name) (end_tag name)
  end-with name p =
      then-with e (codes "</" ++ name) (codes "</" ++ name) (codes ">") (codes ">") (then-with e (codes "</") (codes "</") name name refl p) refl

  abbrev pub default : List ℕ
  default = ending_bytes LineFeed

  module _ (options : CompileOptions) where
    -- ---- pieces

    -- where a footnote is called, the texts of the options hold no LF
    abbrev pub MayCall : List NamedCall → Type 0
    MayCall calls = (calls ≡ []) ⊎ HaveNoFeeds options

    abbrev pub printed : List ℕ → List Piece → List ℕ
    printed out ps = fold (print default) out ps

    abbrev pub printed_with : List ℕ → List Piece → List ℕ
    printed_with out ps = fold (print (ending_bytes e)) out ps

    abbrev pub shown : List NamedCall → List NamedCall → List Piece → List Piece
    shown firsts earlier ps = with_calls options firsts earlier ps

    -- after whatever was printed, pieces print what others do with this ending in place of each LF
    abbrev pub PrintWith : List Piece → List Piece → Type 0
    PrintWith others ones = (out : List ℕ) → printed_with (with_ending e out) others ≡ with_ending e (printed out ones)

    -- so they print outside of footnotes and in each
    pub record CutWith (others ones : List Piece) : Type 0 where
      pub other_outside : List Piece
      pub one_outside : List Piece
      pub other_insides : List (List Piece)
      pub one_insides : List (List Piece)
      pub other_cut : Cut others other_outside other_insides
      pub one_cut : Cut ones one_outside one_insides
      pub outside_with : PrintWith other_outside one_outside
      pub insides_with : map (layout (ending_bytes e)) other_insides ≡ map (with_ending e) (map (layout default) one_insides)

    -- they have the same calls, and print so with what these print, whatever calls come first and before them
    pub record CallWith (others ones : List Piece) : Type 0 where
      pub calls : named_calls others ≡ named_calls ones
      pub may : MayCall (named_calls ones)
      pub cut : (firsts earlier : List NamedCall) → CutWith (shown firsts earlier others) (shown firsts earlier ones)

    abbrev pub ShownWith : List Piece → List Piece → Type 0
    ShownWith others ones = PrintWith others ones × CallWith others ones

    -- their headings take the same slugs, whatever slugs are taken before, and with the ids of these they print so
    abbrev pub PiecesWith : List Piece → List Piece → Type 0
    PiecesWith others ones =
        (taken : List (List ℕ))
        → ShownWith (with_ids options taken others) (with_ids options taken ones) × (taken_after taken others ≡ taken_after taken ones)

    -- pieces that footnotes don't need
    pub plain_cut : (others ones : List Piece) → ArePlain others → ArePlain ones → PrintWith others ones → CutWith others ones
    plain_cut others ones a b p = record {
      other_outside = others;
      one_outside = ones;
      other_insides = [];
      one_insides = [];
      other_cut = cut_plain others a;
      one_cut = cut_plain ones b;
      outside_with = p;
      insides_with = refl;
    }

    pub no_cut : CutWith [] []
    no_cut = plain_cut [] [] tt tt (λ out. refl)

    pub no_pieces : PiecesWith [] []
    no_pieces taken = (((λ out. refl), record { calls = refl; may = inl refl; cut = λ firsts earlier. no_cut }), refl)

    print_append : (others ones others' ones' : List Piece) → PrintWith others ones → PrintWith others' ones' → PrintWith (others ++ others') (ones ++ ones')
    print_append others ones others' ones' p q out =
        fold-append (print (ending_bytes e)) (with_ending e out) others others'
        ∙ ap (λ t. printed_with t others') (p out)
        ∙ q (printed out ones)
        ∙ sym (ap (with_ending e) (fold-append (print default) out ones ones'))

    insides_append : (xs' ys' xs ys : List (List Piece))
        → map (layout (ending_bytes e)) xs' ≡ map (with_ending e) (map (layout default) xs)
        → map (layout (ending_bytes e)) ys' ≡ map (with_ending e) (map (layout default) ys)
        → map (layout (ending_bytes e)) (xs' ++ ys') ≡ map (with_ending e) (map (layout default) (xs ++ ys))
    insides_append xs' ys' xs ys p q =
        map-append (layout (ending_bytes e)) xs' ys'
        ∙ ap (λ all. all ++ map (layout (ending_bytes e)) ys') p
        ∙ ap (λ all. map (with_ending e) (map (layout default) xs) ++ all) q
        ∙ sym (ap (map (with_ending e)) (map-append (layout default) xs ys) ∙ map-append (with_ending e) (map (layout default) xs) (map (layout default) ys))

    cut_after : (others ones others' ones' : List Piece) → CutWith others ones → CutWith others' ones' → CutWith (others ++ others') (ones ++ ones')
    cut_after others ones others' ones' p q = record {
      other_outside = p.other_outside ++ q.other_outside;
      one_outside = p.one_outside ++ q.one_outside;
      other_insides = p.other_insides ++ q.other_insides;
      one_insides = p.one_insides ++ q.one_insides;
      other_cut = cut_append others others' p.other_outside q.other_outside p.other_insides q.other_insides p.other_cut q.other_cut;
      one_cut = cut_append ones ones' p.one_outside q.one_outside p.one_insides q.one_insides p.one_cut q.one_cut;
      outside_with = print_append p.other_outside p.one_outside q.other_outside q.one_outside p.outside_with q.outside_with;
      insides_with = insides_append p.other_insides q.other_insides p.one_insides q.one_insides p.insides_with q.insides_with;
    }

    -- what was said of both of two lists of pieces with calls
    shown_both : (others ones others' ones' : List Piece) (firsts earlier : List NamedCall)
        → CutWith (shown firsts earlier others ++ shown firsts (earlier ++ named_calls others) others')
        (shown firsts earlier ones ++ shown firsts (earlier ++ named_calls ones) ones')
        → CutWith (shown firsts earlier (others ++ others')) (shown firsts earlier (ones ++ ones'))
    shown_both others ones others' ones' firsts earlier p =
        subst (λ ps. CutWith ps (shown firsts earlier (ones ++ ones'))) (sym (shown_append options firsts earlier others others'))
        (subst (CutWith (shown firsts earlier others ++ shown firsts (earlier ++ named_calls others) others'))
        (sym (shown_append options firsts earlier ones ones')) p)

    may_both : (cs ds : List NamedCall) → MayCall cs → MayCall ds → MayCall (cs ++ ds)
    may_both cs ds (inl none) (inl no_more) = inl (ap (λ calls. calls ++ ds) none ∙ no_more)
    may_both cs ds (inl none) (inr fit) = inr fit
    may_both cs ds (inr fit) may = inr fit

    shown_after : (others ones others' ones' : List Piece) → ShownWith others ones → ShownWith others' ones'
        → ShownWith (others ++ others') (ones ++ ones')
    shown_after others ones others' ones' p q = (
      print_append others ones others' ones' p.0 q.0,
      record {
        calls =
            calls_append others others' ∙ ap (λ cs. cs ++ named_calls others') p.1.calls ∙ ap (λ cs. named_calls ones ++ cs) q.1.calls
            ∙ sym (calls_append ones ones');
        may = subst MayCall (sym (calls_append ones ones')) (may_both (named_calls ones) (named_calls ones') p.1.may q.1.may);
        cut = λ firsts earlier.
            let now = earlier ++ named_calls others in
            let first = p.1.cut firsts earlier in
            let next : CutWith (shown firsts now others') (shown firsts (earlier ++ named_calls ones) ones') =
            subst (λ cs. CutWith (shown firsts now others') (shown firsts (earlier ++ cs) ones')) p.1.calls (q.1.cut firsts now) in
            shown_both others ones others' ones' firsts earlier
            (cut_after (shown firsts earlier others) (shown firsts earlier ones) (shown firsts now others') (shown firsts (earlier ++ named_calls ones) ones')
            first next);
      },
    )

    pub append-with : (others ones others' ones' : List Piece) → PiecesWith others ones → PiecesWith others' ones'
        → PiecesWith (others ++ others') (ones ++ ones')
    append-with others ones others' ones' p q taken =
        let first = p taken in
        let now = taken_after taken ones in
        let next = q now in
        let other = with_ids options taken others in
        let one = with_ids options taken ones in
        let other' = with_ids options now others' in
        let one' = with_ids options now ones' in
        let all = shown_after other one other' one' first.0 next.0 in (
          subst (λ ps. ShownWith ps (with_ids options taken (ones ++ ones')))
              (sym (ids_append options taken others others' ∙ ap (λ later. other ++ with_ids options later others') first.1))
              (subst (ShownWith (other ++ other')) (sym (ids_append options taken ones ones')) all),
          taken_append taken others others' ∙ ap (λ later. taken_after later others') first.1 ∙ next.1 ∙ sym (taken_append taken ones ones'),
        )

    pub more-with : (other one : Piece) (others ones : List Piece) → PiecesWith (other ∷ []) (one ∷ []) → PiecesWith others ones
        → PiecesWith (other ∷ others) (one ∷ ones)
    more-with other one others ones p q = append-with (other ∷ []) (one ∷ []) others ones p q

    -- pieces that footnotes don't need
    plain_shown : (ps : List Piece) → ArePlain ps → (firsts earlier : List NamedCall) → shown firsts earlier ps ≡ ps
    plain_shown ps are firsts earlier = uncalled_shown options firsts earlier ps (plain_calls ps are)

    pub plain-with : (others ones : List Piece) → ArePlain others → ArePlain ones → PrintWith others ones → ShownWith others ones
    plain-with others ones a b p = (
      p,
      record {
        calls = plain_calls others a ∙ sym (plain_calls ones b);
        may = inl (plain_calls ones b);
        cut = λ firsts earlier.
            subst (λ ps. CutWith ps (shown firsts earlier ones)) (sym (plain_shown others a firsts earlier))
            (subst (CutWith others) (sym (plain_shown ones b firsts earlier)) (plain_cut others ones a b p));
      },
    )

    -- pieces without headings
    unnamed-with : (others ones : List Piece) → AreUnnamed others → AreUnnamed ones → ShownWith others ones → PiecesWith others ones
    unnamed-with others ones a b p taken = (
      subst (λ ps. ShownWith ps (with_ids options taken ones)) (sym (unnamed_ids options taken others a))
          (subst (ShownWith others) (sym (unnamed_ids options taken ones b)) p),
      unnamed_taken taken others a ∙ sym (unnamed_taken taken ones b),
    )

    pub bytes_printed : (out others ones : List ℕ) → BytesWith others ones → with_ending e out ++ others ≡ with_ending e (out ++ ones)
    bytes_printed out others ones p = then-with e (with_ending e out) out others ones refl p

    pub said-with : (other one : PrintedPart) → SaidWith e other one → PiecesWith (Says other ∷ []) (Says one ∷ [])
    said-with other one p taken =
        (plain-with (Says other ∷ []) (Says one ∷ []) (tt, tt) (tt, tt) (λ out. bytes_printed out (said_bytes other) (said_bytes one) p), refl)

    pub open-with : (name : List ℕ) (others ones : List Attribute) → BytesWith name name → AttributesWith others ones
        → PiecesWith (Open (tag name others) ∷ []) (Open (tag name ones) ∷ [])
    open-with name others ones p q taken = (
      plain-with (Open (tag name others) ∷ []) (Open (tag name ones) ∷ []) (tt, tt) (tt, tt)
          (λ out. bytes_printed out (start_tag (tag name others)) (start_tag (tag name ones)) (start-with name others ones p q)),
      refl,
    )

    -- the start of a heading that gets an id, where that holds no LF, whatever slug it has
    pub named-with : (name text : List ℕ) → BytesWith name name
        → ((taken : List (List ℕ)) → let id = id_attributes options (next_slug taken text) ++ [] in AttributesWith id id)
        → PiecesWith (Named (bare_tag name) text ∷ []) (Named (bare_tag name) text ∷ [])
    named-with name text p q taken =
        let id = id_attributes options (next_slug taken text) ++ [] in
        let start = Open (tag name id) ∷ [] in (
          plain-with start start (tt, tt) (tt, tt)
              (λ out. bytes_printed out (start_tag (tag name id)) (start_tag (tag name id)) (start-with name id id p (q taken))),
          refl,
        )

    pub close-with : (name : List ℕ) → BytesWith name name → PiecesWith (Close name ∷ []) (Close name ∷ [])
    close-with name p taken =
        (plain-with (Close name ∷ []) (Close name ∷ []) (tt, tt) (tt, tt) (λ out. bytes_printed out (end_tag name) (end_tag name) (end-with name p)), refl)

    pub void_piece-with : (name : List ℕ) (others ones : List Attribute) → BytesWith name name → AttributesWith others ones
        → PiecesWith (Void (tag name others) ∷ []) (Void (tag name ones) ∷ [])
    void_piece-with name others ones p q taken = (
      plain-with (Void (tag name others) ∷ []) (Void (tag name ones) ∷ []) (tt, tt) (tt, tt)
          (λ out. bytes_printed out (void_tag (tag name others)) (void_tag (tag name ones)) (void-with name others ones p q)),
      refl,
    )

    default-with : BytesWith (ending_bytes e) default
    default-with = sym (append-nil (ending_bytes e))

    pub eol_piece-with : PiecesWith (Eol ∷ []) (Eol ∷ [])
    eol_piece-with taken = (plain-with (Eol ∷ []) (Eol ∷ []) (tt, tt) (tt, tt) (λ out. bytes_printed out (ending_bytes e) default default-with), refl)

    fresh_by : (out : List ℕ) (fresh : Bool)
        → cond fresh (with_ending e out) (with_ending e out ++ ending_bytes e) ≡ with_ending e (cond fresh out (out ++ default))
    fresh_by out true = refl
    fresh_by out false = bytes_printed out (ending_bytes e) default default-with

    pub fresh_piece-with : PiecesWith (Fresh ∷ []) (Fresh ∷ [])
    fresh_piece-with taken = (
      plain-with (Fresh ∷ []) (Fresh ∷ []) (tt, tt) (tt, tt)
          (λ out. ap (λ fresh. cond fresh (with_ending e out) (with_ending e out ++ ending_bytes e)) (fresh-with e out) ∙ fresh_by out (is_fresh out)),
      refl,
    )

    pub fresh-then : (others ones : List Piece) → PiecesWith others ones → PiecesWith (Fresh ∷ others) (Fresh ∷ ones)
    fresh-then others ones p = more-with Fresh Fresh others ones fresh_piece-with p

    pub then-fresh : (others ones : List Piece) → PiecesWith others ones → PiecesWith (others ++ Fresh ∷ []) (ones ++ Fresh ∷ [])
    then-fresh others ones p = append-with others ones (Fresh ∷ []) (Fresh ∷ []) p fresh_piece-with

    pub element-with : (name : List ℕ) (others ones : List Attribute) (inside' inside : List Piece) → BytesWith name name → AttributesWith others ones
        → PiecesWith inside' inside → PiecesWith (element (tag name others) inside') (element (tag name ones) inside)
    element-with name others ones inside' inside p q r =
        more-with (Open (tag name others)) (Open (tag name ones)) (inside' ++ Close name ∷ []) (inside ++ Close name ∷ []) (open-with name others ones p q)
        (append-with inside' inside (Close name ∷ []) (Close name ∷ []) r (close-with name p))

    -- ---- parts of a text

    all_printed : (d : List ℕ) (out : List ℕ) (ss : List PrintedPart) → fold (print d) out (map Says ss) ≡ out ++ flat_map said_bytes ss
    all_printed d out [] = sym (append-nil out)
    all_printed d out (s ∷ ss) = all_printed d (out ++ said_bytes s) ss ∙ append_assoc out (said_bytes s) (flat_map said_bytes ss)

    says_plain : (ss : List PrintedPart) → ArePlain (map Says ss)
    says_plain [] = tt
    says_plain (s ∷ ss) = (tt, says_plain ss)

    pub saids-with : (others ones : List PrintedPart) → SaidsWith e others ones → PiecesWith (map Says others) (map Says ones)
    saids-with others ones p =
        let unnamed : (ss : List PrintedPart) → AreUnnamed (map Says ss) = λ ss. each_map IsUnnamed Says ss (λ s. tt) in
        unnamed-with (map Says others) (map Says ones) (unnamed others) (unnamed ones)
        (plain-with (map Says others) (map Says ones) (says_plain others) (says_plain ones)
        (λ out. all_printed (ending_bytes e) (with_ending e out) others
        ∙ bytes_printed out (flat_map said_bytes others) (flat_map said_bytes ones) p
        ∙ sym (ap (with_ending e) (all_printed default out ones))))

    -- ---- footnotes

    note_cut : (others ones : List Piece) → CutWith others ones → CutWith (NoteStart ∷ (others ++ NoteEnd ∷ [])) (NoteStart ∷ (ones ++ NoteEnd ∷ []))
    note_cut others ones p = record {
      other_outside = [];
      one_outside = [];
      other_insides = p.other_insides ++ p.other_outside ∷ [];
      one_insides = p.one_insides ++ p.one_outside ∷ [];
      other_cut = cut_note others p.other_outside p.other_insides p.other_cut;
      one_cut = cut_note ones p.one_outside p.one_insides p.one_cut;
      outside_with = λ out. refl;
      insides_with =
          insides_append p.other_insides (p.other_outside ∷ []) p.one_insides (p.one_outside ∷ []) p.insides_with
          (ap (λ html. html ∷ []) (p.outside_with []));
    }

    note_shown : (others ones : List Piece) → ShownWith others ones → ShownWith (NoteStart ∷ (others ++ NoteEnd ∷ [])) (NoteStart ∷ (ones ++ NoteEnd ∷ []))
    note_shown others ones p =
        let end = NoteEnd ∷ [] in (
          print_append others ones end end p.0 (λ out. refl),
          record {
            calls = calls_append others end ∙ ap (λ cs. cs ++ []) p.1.calls ∙ sym (calls_append ones end);
            may = subst MayCall (sym (calls_append ones end ∙ append-nil (named_calls ones))) p.1.may;
            cut = λ firsts earlier.
                subst (λ ps. CutWith (NoteStart ∷ ps) (NoteStart ∷ shown firsts earlier (ones ++ end))) (sym (shown_append options firsts earlier others end))
                (subst (λ ps. CutWith (NoteStart ∷ (shown firsts earlier others ++ end)) (NoteStart ∷ ps)) (sym (shown_append options firsts earlier ones end))
                (note_cut (shown firsts earlier others) (shown firsts earlier ones) (p.1.cut firsts earlier)));
          },
        )

    -- a footnote around pieces
    pub note-with : (others ones : List Piece) → PiecesWith others ones → PiecesWith (NoteStart ∷ (others ++ NoteEnd ∷ [])) (NoteStart ∷ (ones ++ NoteEnd ∷ []))
    note-with others ones p taken =
        let end = NoteEnd ∷ [] in
        let other = with_ids options taken others in
        let one = with_ids options taken ones in (
          subst (λ ps. ShownWith (NoteStart ∷ ps) (NoteStart ∷ with_ids options taken (ones ++ end))) (sym (ids_append options taken others end))
              (subst (λ ps. ShownWith (NoteStart ∷ (other ++ end)) (NoteStart ∷ ps)) (sym (ids_append options taken ones end))
              (note_shown other one (p taken).0)),
          taken_append taken others end ∙ (p taken).1 ∙ sym (taken_append taken ones end),
        )

    -- attributes after others
    pub attributes_append : (a' a b' b : List Attribute) → AttributesWith a' a → AttributesWith b' b → AttributesWith (a' ++ b') (a ++ b)
    attributes_append a' a b' b p q =
        flat_map-append attribute_bytes a' b'
        ∙ then-with e (flat_map attribute_bytes a') (flat_map attribute_bytes a) (flat_map attribute_bytes b') (flat_map attribute_bytes b) p q
        ∙ sym (ap (with_ending e) (flat_map-append attribute_bytes a b))
