-- What is printed in a level, with the raw elements that it leaves open and the tags of the page's own that are in it.
use Rattle.std.proofs.Common.{◌≡◌, ℕ, zero, suc, Bool, true, false, not, ◌&&◌, cond, List, [], ◌∷◌, ◌++◌, codes, length, refl, sym, ap, ◌∙◌, subst}
use Rattle.std.proofs.Common.{append_assoc, append-nil, inl, inr}
use Rattle.std.specs.Prelude.{nat_le}
use Rattle.std.specs.List.{fold}
use Rattle.std.proofs.lemmas.Bool.{cases_Bool, cond_both, and_parts, and_from, true≢false}
use Rattle.definition_page.specs.Tags.{Tag, start_tag, end_tag, void_tag}
use Rattle.html_safe_page.specs.SafePage.{Items, End, join}
use Rattle.html_safe_page.specs.declared.table.TagTable.{TagTable}
use Rattle.definition_html.specs.Listing.{is_in, is_part, parents_of, heading_names, deepest}
use Rattle.html_listed.specs.ListedPage.{is_listed_start, is_listed_void}
use Rattle.html_listed.specs.Mixed.{raw_may_begin}
use Rattle.definition_html.specs.Raw.{RawPart, Text, Begin, Empty, End as Closing, Single}
use Rattle.html_listed.specs.Standing.{may_begin}
use Rattle.definition_html.specs.State.{State, Level, says, with_open, opened, ended_of, ended, all_ended, count_to, ended_to, begins_with_frame}
use Rattle.definition_html.specs.State.{without_frame, with_room}
use Rattle.definition_html.specs.Listed.{begun, begun_in, begun_heading, begins, raw_part}
use Rattle.html_listed.proofs.Tags.{IsTagWith, element_spelled, void_spelled}
use Rattle.html_listed.proofs.Open.{AreFit, names_ended, IsGood, AreGood, none_open}
use Rattle.html_listed.proofs.Standing.{heading_is_no_part, has_room, part_fits, other_fits}
use Rattle.html_listed.proofs.Mixed.{join_end, join_more, IsMixedIn, mixed_nothing, mixed_text, mixed_append, mixed_raw, mixed_raw_tag}

module _ (table : TagTable) where
  -- bytes end raw elements of these names, the last one first, each after a page, and then are a page; with these own tags
  abbrev pub Closes : Bool → List (List ℕ) → Items → List ℕ → Type 0
  Closes h [] own bytes = IsMixedIn table h [] own bytes
  Closes h (n ∷ ns) own bytes =
      (inner : List ℕ) × (rest : List ℕ) × (one : Items) × (other : Items) × IsMixedIn table h (n ∷ ns) one inner × (bytes ≡ inner ++ (end_tag n ++ rest))
      × Closes h ns other rest × (own ≡ join one other)

  -- one state after another in a level, with these own tags between
  pub record Adds (own : Items) (before after : State) : Type 0 where
    pub added : List ℕ
    pub printed : after.out ≡ before.out ++ added
    pub closes : (o : Items) (bytes : List ℕ) → Closes before.level.in_heading after.level.names o bytes
        → Closes before.level.in_heading before.level.names (join own o) (added ++ bytes)
    pub fit : AreFit after.level.names
    pub around : after.around ≡ before.around
    pub heading : after.level.in_heading ≡ before.level.in_heading

  pub page_ahead : (h : Bool) (a o : Items) (page bytes : List ℕ) (names : List (List ℕ)) → IsMixedIn table h names a page → Closes h names o bytes
      → Closes h names (join a o) (page ++ bytes)
  page_ahead h a o page bytes [] p k = mixed_append table h [] a o page bytes p k
  page_ahead h a o page bytes (n ∷ ns) p k = (
    page ++ k.0,
    k.1,
    join a k.2,
    k.3,
    mixed_append table h (n ∷ ns) a k.2 page k.0 p k.4,
    ap (λ x. page ++ x) k.5 ∙ sym (append_assoc page k.0 (end_tag n ++ k.1)),
    k.6,
    ap (join a) k.7 ∙ sym (join_more a k.2 k.3),
  )

  pub no_step : (s : State) → AreFit s.level.names → Adds End s s
  no_step s fit = record { added = []; printed = sym (append-nil s.out); closes = λ o bytes k. k; fit = fit; around = refl; heading = refl }

  pub both_steps : (a b : Items) (s t u : State) → Adds a s t → Adds b t u → Adds (join a b) s u
  both_steps a b s t u one two = record {
    added = one.added ++ two.added;
    printed = two.printed ∙ ap (λ x. x ++ two.added) one.printed ∙ append_assoc s.out one.added two.added;
    closes = λ o bytes k.
        let h = s.level.in_heading in
        let later = subst (λ x. Closes x t.level.names (join b o) (two.added ++ bytes)) one.heading
        (two.closes o bytes (subst (λ x. Closes x u.level.names o bytes) (sym one.heading) k)) in
        subst (λ x. Closes h s.level.names x ((one.added ++ two.added) ++ bytes)) (sym (join_more a b o))
        (subst (Closes h s.level.names (join a (join b o))) (sym (append_assoc one.added two.added bytes)) (one.closes (join b o) (two.added ++ bytes) later));
    fit = two.fit;
    around = two.around ∙ one.around;
    heading = two.heading ∙ one.heading;
  }

  pub says_page : (own : Items) (s : State) (page : List ℕ) → AreFit s.level.names → IsMixedIn table s.level.in_heading s.level.names own page
      → Adds own s (says page s)
  says_page own s page fit p = record {
    added = page;
    printed = refl;
    closes = λ o bytes k. page_ahead s.level.in_heading own o page bytes s.level.names p k;
    fit = fit;
    around = refl;
    heading = refl;
  }

  -- ---- raw elements

  begin_step : (t : Tag) (s : State) → AreFit s.level.names → IsTagWith is_listed_start t → raw_may_begin s.level t.name ≡ true
      → Adds End s (opened t s)
  begin_step t s fit i k = record {
    added = start_tag t;
    printed = refl;
    closes = λ o bytes c.
        let h = s.level.in_heading in
        let names = s.level.names in
        let inside = c.0 ++ end_tag t.name in
        let named = i.named in
        let page = subst (IsMixedIn table h names c.2) (sym (element_spelled is_listed_start t i c.0))
        (mixed_raw table h names i.spelled c.2 c.0 i.passes (ap (raw_may_begin s.level) named ∙ k)
        (subst (λ n. IsMixedIn table h (n ∷ names) c.2 c.0) (sym named) c.4)) in
        subst (λ x. Closes h names x (start_tag t ++ bytes)) (sym c.7)
        (subst (Closes h names (join c.2 c.3))
        (append_assoc (start_tag t) inside c.1
        ∙ ap (λ x. start_tag t ++ x) (append_assoc c.0 (end_tag t.name) c.1)
        ∙ ap (λ x. start_tag t ++ x) (sym c.5))
        (page_ahead h c.2 c.3 (start_tag t ++ inside) c.1 names page c.6));
    fit = ((and_parts (may_begin s.level.names t.name) (not (s.level.in_heading && is_in heading_names t.name)) k).0, fit);
    around = refl;
    heading = refl;
  }

  end_steps : (n : ℕ) (names : List (List ℕ)) (s : State) → AreFit names → Adds End (with_open names s) (ended_of n names s)
  end_steps zero names s fit = no_step (with_open names s) fit
  end_steps (suc n) [] s fit = no_step (with_open [] s) fit
  end_steps (suc n) (name ∷ names) s fit =
      both_steps End End (with_open (name ∷ names) s) (with_open names (says (end_tag name) s)) (ended_of n names (says (end_tag name) s))
      (record {
        added = end_tag name;
        printed = refl;
        closes = λ o bytes k. ([], bytes, End, o, mixed_nothing table s.level.in_heading (name ∷ names), refl, k, refl);
        fit = fit.1;
        around = refl;
        heading = refl;
      })
      (end_steps n names (says (end_tag name) s) fit.1)

  pub ends : (n : ℕ) (s : State) → AreFit s.level.names → Adds End s (ended n s)
  ends n s fit = end_steps n s.level.names s fit

  frame_step : (s : State) → AreFit s.level.names → Adds End s (without_frame s)
  frame_step s fit =
      cond_both (begins_with_frame s.level.names) (ended_to (codes "table" ∷ []) s) s (Adds End s)
      (λ _. ends (count_to (codes "table" ∷ []) s.level.names) s fit) (λ _. no_step s fit)

  pub room_step : (name : List ℕ) (s : State) → AreFit s.level.names → Adds End s (with_room name s)
  room_step name s fit =
      let t = without_frame s in
      let frame = frame_step s fit in
      cond_both (is_in heading_names name) (ended_to heading_names t) t (Adds End s)
      (λ _. both_steps End End s t (ended_to heading_names t) frame (ends (count_to heading_names t.level.names) t frame.fit))
      (λ _. frame)

  -- ---- where elements begin

  no_heading : (h : Bool) → (h && false) ≡ false
  no_heading true = refl
  no_heading false = refl

  raw_begins : (l : Level) (name : List ℕ) → may_begin l.names name ≡ true → (l.in_heading && is_in heading_names name) ≡ false → raw_may_begin l name ≡ true
  raw_begins l name h k = and_from (may_begin l.names name) (not (l.in_heading && is_in heading_names name)) h (ap not k)

  -- no part is a heading
  part_is_no_heading : (h : Bool) (name : List ℕ) → is_part name ≡ true → (h && is_in heading_names name) ≡ false
  part_is_no_heading h name part = elim (cases_Bool (is_in heading_names name)) [
    | inl e ↦ absurd (true≢false (sym part ∙ heading_is_no_part name e))
    | inr e ↦ ap (λ t. h && t) e ∙ no_heading h
  ]

  abbrev IsNext : (State → State) → Type 0
  IsNext next = (s : State) → AreFit s.level.names → Adds End s (next s)

  begun_step : (next : State → State) (t : Tag) (s : State) → AreFit s.level.names → IsNext next → IsTagWith is_listed_start t
      → (nat_le deepest (length s.level.names) ≡ false → raw_may_begin s.level t.name ≡ true) → Adds End s (begun next t s)
  begun_step next t s fit go i k =
      cond_both (nat_le deepest (length s.level.names)) s (next (opened t s)) (Adds End s) (λ _. no_step s fit)
      (λ e.
      let first = begin_step t s fit i (k e) in
      both_steps End End s (opened t s) (next (opened t s)) first (go (opened t s) first.fit))

  begun_in_step : (next : State → State) (n : ℕ) (t : Tag) (s : State) → AreFit s.level.names → IsNext next → IsTagWith is_listed_start t
      → is_part t.name ≡ true → count_to (parents_of t.name) s.level.names ≡ n → Adds End s (begun_in next n t s)
  begun_in_step next zero t s fit go i part k = no_step s fit
  begun_in_step next (suc above) t s fit go i part k =
      let names = s.level.names in
      let u = ended above s in
      let ending = ends above s fit in
      both_steps End End s u (begun next t u) ending
      (begun_step next t u ending.fit go i
      (λ deep. raw_begins u.level t.name
      (subst (λ left. nat_le deepest (length left) ≡ false → may_begin left t.name ≡ true) (sym (names_ended above names s))
      (part_fits t.name names above part k) deep)
      (part_is_no_heading u.level.in_heading t.name part)))

  begins_step : (next : State → State) (t : Tag) (s : State) → AreFit s.level.names → IsNext next → IsTagWith is_listed_start t
      → Adds End s (begins next t s)
  begins_step next t s fit go i =
      let room = with_room t.name s in
      let above = count_to (parents_of t.name) s.level.names in
      let made = room_step t.name s fit in
      cond_both (is_part t.name) (begun_in next above t s) (cond (is_in heading_names t.name) (begun_heading next t room) (begun next t room)) (Adds End s)
      (λ part. begun_in_step next above t s fit go i part refl)
      (λ other.
      let begins_if = λ (e : (room.level.in_heading && is_in heading_names t.name) ≡ false).
      begun_step next t room made.fit go i (λ deep. raw_begins room.level t.name (other_fits t.name s fit other deep) e) in
      cond_both (is_in heading_names t.name) (begun_heading next t room) (begun next t room) (Adds End s)
      (λ _. both_steps End End s room (begun_heading next t room) made
      (cond_both room.level.in_heading room (begun next t room) (Adds End room) (λ _. no_step room made.fit)
      (λ e. begins_if (ap (λ h. h && is_in heading_names t.name) e))))
      (λ e. both_steps End End s room (begun next t room) made
      (begins_if (ap (λ x. room.level.in_heading && x) e ∙ no_heading room.level.in_heading))))

  -- ---- parts of raw HTML

  part_step : (part : RawPart) (s : State) → AreFit s.level.names → IsGood part → Adds End s (raw_part s part)
  part_step (Text bytes) s fit h =
      says_page End s bytes fit (subst (IsMixedIn table s.level.in_heading s.level.names End) (sym h.1) (mixed_text table s.level.in_heading s.level.names h.0))
  part_step (Begin t) s fit h = begins_step (λ u. u) t s fit no_step h
  part_step (Empty t) s fit h = begins_step (ended 1) t s fit (ends 1) h
  part_step (Closing name) s fit h = ends (count_to (name ∷ []) s.level.names) s fit
  part_step (Single t) s fit h =
      let room = with_room t.name s in
      let made = room_step t.name s fit in
      both_steps End End s room (says (void_tag t) room) made
      (says_page End room (void_tag t) made.fit (subst (IsMixedIn table room.level.in_heading room.level.names End) (sym (void_spelled is_listed_void t h))
      (mixed_raw_tag table room.level.in_heading room.level.names h.spelled h.passes (ap not (has_room t.name s fit).no_frame))))

  pub parts_step : (parts : List RawPart) (s : State) → AreFit s.level.names → AreGood parts → Adds End s (fold raw_part s parts)
  parts_step [] s fit h = no_step s fit
  parts_step (part ∷ parts) s fit h =
      let first = part_step part s fit h.0 in
      both_steps End End s (raw_part s part) (fold raw_part (raw_part s part) parts) first (parts_step parts (raw_part s part) first.fit h.1)

  -- ---- the end of a level

  -- what was printed in a level is a page, once its raw elements ended
  pub level_page : (own : Items) (s t : State) → s.level.names ≡ [] → (f : Adds own s (all_ended t)) → IsMixedIn table s.level.in_heading [] own f.added
  level_page own s t none f =
      let h = s.level.in_heading in
      subst (λ o. IsMixedIn table h [] o f.added) (join_end own)
      (subst (IsMixedIn table h [] (join own End)) (append-nil f.added)
      (subst (λ names. Closes h names (join own End) (f.added ++ [])) none
      (f.closes End [] (subst (λ names. Closes h names End []) (sym (none_open t)) (mixed_nothing table h [])))))
