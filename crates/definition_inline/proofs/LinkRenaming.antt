-- No part of a link looks at which space, tab or line ending a code is: where each stands for another of its kind, the parts do so too.
use Rattle.std.proofs.Common.{◌≡◌, ℕ, ◌+◌, ◌-◌, Bool, true, false, cond, not, ◌&&◌, ◌||◌, eqb, List, [], ◌∷◌, map, take, drop, length, Option, None, Some, refl}
use Rattle.std.proofs.Common.{sym, ap, ◌∙◌, inl, inr}
use Rattle.std.proofs.lemmas.Bool.{cases_Bool, cond-true, cond-false, eqb-true, ne_eqb, or_from, true≢false}
use Rattle.std.proofs.lemmas.List.{length-map, take-map, drop-map}
use Rattle.std.specs.List.{prefix_len}
use Rattle.std.specs.Option.{option_map}
use Rattle.std.specs.Prelude.{nat_le}
use Rattle.definition_text.specs.Columns.{is_white, code_byte}
use Rattle.definition_text.specs.Content.{Part, part, is_eol, is_space, may_escape, at_line_start, text_before, up_to, closed_by}
use Rattle.definition_inline.specs.Space.{after_spaces, after_ending, after_white, begins_with_space}
use Rattle.definition_inline.specs.Label.{ends_label, label_end, has_text, label_size, is_label, if_label, label_at}
use Rattle.definition_inline.specs.Destination.{ends_angle, angle_end, is_control, open_after, is_too_deep, ends_bare, bare_end, unless_empty, if_any}
use Rattle.definition_inline.specs.Destination.{destination_at}
use Rattle.definition_inline.specs.Title.{ends_title, ends_blank_line, title_end, title_close, title_until, title_at}
use Rattle.definition_inline.specs.Definition.{Definition, definition, next_line_after, next_line, definition_with_title}
use Rattle.definition_inline.specs.Definition.{definition_without_title, definition_at}
use Rattle.definition_inline.proofs.PartSteps.{definition_before, with_title, or_definition_without_title, with_destination, with_colon, with_label}

-- a function that puts spaces, tabs and line endings for others of their kind, and keeps all else
pub record Renames (f : ℕ → ℕ) : Type 0 where
  pub white : (c : ℕ) → is_white (f c) ≡ is_white c
  pub ending : (c : ℕ) → is_eol (f c) ≡ is_eol c
  pub other : (c : ℕ) → is_space c ≡ false → f c ≡ c

abbrev pub renamed_part : (ℕ → ℕ) → Part → Part
renamed_part f p = part (map f p.text) (map f p.rest)

abbrev pub renamed_definition : (ℕ → ℕ) → Definition → Definition
renamed_definition f d = definition (map f d.label) (map f d.destination) (option_map (map f) d.title) (map f d.rest)

map_cond : {A B : Type 0} (g : A → B) (b : Bool) (x y : A) → g (cond b x y) ≡ cond b (g x) (g y)
map_cond g true x y = refl
map_cond g false x y = refl

cond_same : {A : Type 0} (b d : Bool) (x u y v : A) → b ≡ d → x ≡ u → y ≡ v → cond b x y ≡ cond d u v
cond_same b d x u y v p q r = ap (λ t. cond t x y) p ∙ ap (λ t. cond d t y) q ∙ ap (λ t. cond d u t) r

-- a space is no code that isn't
no_space : (k c : ℕ) → is_space k ≡ false → is_space c ≡ true → eqb c k ≡ false
no_space k c plain h = ne_eqb c k (λ e. true≢false (sym h ∙ ap is_space e ∙ plain))

module _ (f : ℕ → ℕ) (renames : Renames f) where
  pub space_same : (c : ℕ) → is_space (f c) ≡ is_space c
  space_same c = ap (λ b. b || is_eol (f c)) (renames.white c) ∙ ap (λ b. is_white c || b) (renames.ending c)

  -- a code that is no space is found where it was
  same_at : (k c : ℕ) → is_space k ≡ false → eqb (f c) k ≡ eqb c k
  same_at k c plain = elim (cases_Bool (is_space c)) [
    | inl h ↦ no_space k (f c) plain (space_same c ∙ h) ∙ sym (no_space k c plain h)
    | inr h ↦ ap (λ x. eqb x k) (renames.other c h)
  ]

  escape_same : (e : Bool) (c : ℕ) → may_escape e (f c) ≡ may_escape e c
  escape_same e c = ap (λ b. b && not e) (same_at 92 c refl)

  start_same : (s : Bool) (c : ℕ) → at_line_start s (f c) ≡ at_line_start s c
  start_same s c = ap (λ b. b || (s && is_white (f c))) (renames.ending c) ∙ ap (λ b. is_eol c || (s && b)) (renames.white c)

  before_renamed : (content rest : List ℕ) → text_before (map f content) (map f rest) ≡ map f (text_before content rest)
  before_renamed content rest =
      ap (λ n. take (n - length (map f rest)) (map f content)) (length-map content f)
      ∙ ap (λ n. take (length content - n) (map f content)) (length-map rest f)
      ∙ take-map f (length content - length rest) content

  rest_renamed : (rest : List ℕ) → drop 1 (map f rest) ≡ map f (drop 1 rest)
  rest_renamed [] = refl
  rest_renamed (c ∷ cs) = refl

  closed_renamed : (content : List ℕ) (rest : Option (List ℕ)) → closed_by (map f content) (option_map (map f) rest)
      ≡ option_map (renamed_part f) (closed_by content rest)
  closed_renamed content None = refl
  closed_renamed content (Some rest) =
      ap (λ text. Some (part text (drop 1 (map f rest)))) (before_renamed content rest)
      ∙ ap (λ r. Some (part (map f (text_before content rest)) r)) (rest_renamed rest)

  up_to_renamed : (content : List ℕ) (rest : Option (List ℕ)) → up_to (map f content) (option_map (map f) rest)
      ≡ option_map (renamed_part f) (up_to content rest)
  up_to_renamed content None = refl
  up_to_renamed content (Some rest) = ap (λ text. Some (part text (map f rest))) (before_renamed content rest)

  white_len_same : (cs : List ℕ) → prefix_len is_white (map f cs) ≡ prefix_len is_white cs
  white_len_same [] = refl
  white_len_same (c ∷ cs) = cond_same _ _ _ _ _ _ (renames.white c) (ap (λ n. 1 + n) (white_len_same cs)) refl

  spaces_renamed : (cs : List ℕ) → after_spaces (map f cs) ≡ map f (after_spaces cs)
  spaces_renamed cs = ap (λ n. drop n (map f cs)) (white_len_same cs) ∙ drop-map f (prefix_len is_white cs) cs

  ending_renamed : (cs : List ℕ) → after_ending (map f cs) ≡ map f (after_ending cs)
  ending_renamed [] = refl
  ending_renamed (c ∷ cs) =
      cond_same _ _ _ _ _ _ (renames.ending c) (spaces_renamed cs) refl ∙ sym (map_cond (map f) (is_eol c) (after_spaces cs) (c ∷ cs))

  white_renamed : (cs : List ℕ) → after_white (map f cs) ≡ map f (after_white cs)
  white_renamed cs = ap after_ending (spaces_renamed cs) ∙ ending_renamed (after_spaces cs)

  begins_same : (cs : List ℕ) → begins_with_space (map f cs) ≡ begins_with_space cs
  begins_same [] = refl
  begins_same (c ∷ cs) = space_same c

  -- a reading that goes on after a code, or ends before it, or fails
  step_renamed : (ends here : Bool) (c : ℕ) (cs : List ℕ) (more : Option (List ℕ))
      → cond ends (cond here (Some (map f (c ∷ cs))) None) (option_map (map f) more) ≡ option_map (map f) (cond ends (cond here (Some (c ∷ cs)) None) more)
  step_renamed true true c cs more = refl
  step_renamed true false c cs more = refl
  step_renamed false here c cs more = refl

  label_end_renamed : (e : Bool) (cs : List ℕ) → label_end e (map f cs) ≡ option_map (map f) (label_end e cs)
  label_end_renamed e [] = refl
  label_end_renamed e (c ∷ cs) =
      let ends : ends_label e (f c) ≡ ends_label e c =
      ap (λ b. (b || eqb (f c) 93) && not e) (same_at 91 c refl) ∙ ap (λ b. (eqb c 91 || b) && not e) (same_at 93 c refl) in
      cond_same _ _ _ _ _ _ ends (cond_same _ _ _ _ _ _ (same_at 93 c refl) refl refl)
      (ap (λ b. label_end b (map f cs)) (escape_same e c) ∙ label_end_renamed (may_escape e c) cs)
      ∙ step_renamed (ends_label e c) (eqb c 93) c cs (label_end (may_escape e c) cs)

  has_text_same : (cs : List ℕ) → has_text (map f cs) ≡ has_text cs
  has_text_same [] = refl
  has_text_same (c ∷ cs) = ap (λ b. not b || has_text (map f cs)) (space_same c) ∙ ap (λ b. not (is_space c) || b) (has_text_same cs)

  label_size_same : (s : Bool) (cs : List ℕ) → label_size s (map f cs) ≡ label_size s cs
  label_size_same s [] = refl
  label_size_same s (c ∷ cs) =
      ap (λ b. cond b 0 1 + label_size b (map f cs)) (start_same s c) ∙ ap (λ n. cond (at_line_start s c) 0 1 + n) (label_size_same (at_line_start s c) cs)

  is_label_same : (cs : List ℕ) → is_label (map f cs) ≡ is_label cs
  is_label_same cs = ap (λ b. b && nat_le (label_size false (map f cs)) 999) (has_text_same cs)
      ∙ ap (λ n. has_text cs && nat_le n 999) (label_size_same false cs)

  if_label_renamed : (p : Option Part) → if_label (option_map (renamed_part f) p) ≡ option_map (renamed_part f) (if_label p)
  if_label_renamed None = refl
  if_label_renamed (Some p) = cond_same _ _ _ _ _ _ (is_label_same p.text) refl refl
      ∙ sym (map_cond (option_map (renamed_part f)) (is_label p.text) (Some p) None)

  pub label_renamed : (cs : List ℕ) → label_at (map f cs) ≡ option_map (renamed_part f) (label_at cs)
  label_renamed [] = refl
  label_renamed (c ∷ cs) =
      cond_same _ _ _ _ _ _ (same_at 91 c refl)
      (ap (λ r. if_label (closed_by (map f cs) r)) (label_end_renamed false cs) ∙ ap if_label (closed_renamed cs (label_end false cs))
      ∙ if_label_renamed (closed_by cs (label_end false cs)))
      refl
      ∙ sym (map_cond (option_map (renamed_part f)) (eqb c 91) (if_label (closed_by cs (label_end false cs))) None)

  angle_end_renamed : (e : Bool) (cs : List ℕ) → angle_end e (map f cs) ≡ option_map (map f) (angle_end e cs)
  angle_end_renamed e [] = refl
  angle_end_renamed e (c ∷ cs) =
      let ends : ends_angle e (f c) ≡ ends_angle e c =
      ap (λ b. b || ((eqb (f c) 60 || eqb (f c) 62) && not e)) (renames.ending c)
      ∙ ap (λ b. is_eol c || ((b || eqb (f c) 62) && not e)) (same_at 60 c refl)
      ∙ ap (λ b. is_eol c || ((eqb c 60 || b) && not e)) (same_at 62 c refl) in
      cond_same _ _ _ _ _ _ ends (cond_same _ _ _ _ _ _ (same_at 62 c refl) refl refl)
      (ap (λ b. angle_end b (map f cs)) (escape_same e c) ∙ angle_end_renamed (may_escape e c) cs)
      ∙ step_renamed (ends_angle e c) (eqb c 62) c cs (angle_end (may_escape e c) cs)

  open_same : (e : Bool) (opened c : ℕ) → open_after e opened (f c) ≡ open_after e opened c
  open_same e opened c =
      ap (λ b. cond e opened (cond b (opened + 1) (cond (eqb (f c) 41) (opened - 1) opened))) (same_at 40 c refl)
      ∙ ap (λ b. cond e opened (cond (eqb c 40) (opened + 1) (cond b (opened - 1) opened))) (same_at 41 c refl)

  -- a space ends it, and another code is kept
  ends_bare_same : (e : Bool) (opened c : ℕ) → ends_bare e opened (f c) ≡ ends_bare e opened c
  ends_bare_same e opened c = elim (cases_Bool (is_space c)) [
    | inl h ↦
        let here : ends_bare e opened c ≡ true = ap (λ b. b || is_control c || ((eqb c 41) && (eqb opened 0) && not e)) h in
        let there : ends_bare e opened (f c) ≡ true = ap (λ b. b || is_control (f c) || ((eqb (f c) 41) && (eqb opened 0) && not e)) (space_same c ∙ h) in
        there ∙ sym here
    | inr h ↦ ap (ends_bare e opened) (renames.other c h)
  ]

  deep_step : (ends none deep : Bool) (c : ℕ) (cs : List ℕ) (more : Option (List ℕ))
      → cond ends (cond none (Some (map f (c ∷ cs))) None) (cond deep None (option_map (map f) more))
      ≡ option_map (map f) (cond ends (cond none (Some (c ∷ cs)) None) (cond deep None more))
  deep_step true true deep c cs more = refl
  deep_step true false deep c cs more = refl
  deep_step false none true c cs more = refl
  deep_step false none false c cs more = refl

  bare_end_renamed : (depth : Option ℕ) (e : Bool) (opened : ℕ) (cs : List ℕ)
      → bare_end depth e opened (map f cs) ≡ option_map (map f) (bare_end depth e opened cs)
  bare_end_renamed depth e opened [] = sym (map_cond (option_map (map f)) (eqb opened 0) (Some []) None)
  bare_end_renamed depth e opened (c ∷ cs) =
      let next = open_after e opened c in
      let more : bare_end depth (may_escape e (f c)) (open_after e opened (f c)) (map f cs) ≡ option_map (map f) (bare_end depth (may_escape e c) next cs) =
      ap (λ b. bare_end depth b (open_after e opened (f c)) (map f cs)) (escape_same e c)
      ∙ ap (λ n. bare_end depth (may_escape e c) n (map f cs)) (open_same e opened c)
      ∙ bare_end_renamed depth (may_escape e c) next cs in
      cond_same _ _ _ _ _ _ (ends_bare_same e opened c) refl (cond_same _ _ _ _ _ _ (ap (is_too_deep depth) (open_same e opened c)) refl more)
      ∙ deep_step (ends_bare e opened c) (eqb opened 0) (is_too_deep depth next) c cs (bare_end depth (may_escape e c) next cs)

  unless_empty_renamed : (text : List ℕ) (p : Part) → unless_empty (map f text) (renamed_part f p) ≡ option_map (renamed_part f) (unless_empty text p)
  unless_empty_renamed [] p = refl
  unless_empty_renamed (c ∷ cs) p = refl

  if_any_renamed : (p : Option Part) → if_any (option_map (renamed_part f) p) ≡ option_map (renamed_part f) (if_any p)
  if_any_renamed None = refl
  if_any_renamed (Some p) = unless_empty_renamed p.text p

  pub destination_renamed : (depth : Option ℕ) (cs : List ℕ) → destination_at depth (map f cs) ≡ option_map (renamed_part f) (destination_at depth cs)
  destination_renamed depth [] = refl
  destination_renamed depth (c ∷ cs) =
      let angle = closed_by cs (angle_end false cs) in
      let bare = up_to (c ∷ cs) (bare_end depth false 0 (c ∷ cs)) in
      cond_same _ _ _ _ _ _ (same_at 60 c refl)
      (ap (closed_by (map f cs)) (angle_end_renamed false cs) ∙ closed_renamed cs (angle_end false cs))
      (ap (λ r. if_any (up_to (map f (c ∷ cs)) r)) (bare_end_renamed depth false 0 (c ∷ cs))
      ∙ ap if_any (up_to_renamed (c ∷ cs) (bare_end depth false 0 (c ∷ cs))) ∙ if_any_renamed bare)
      ∙ sym (map_cond (option_map (renamed_part f)) (eqb c 60) angle (if_any bare))

  title_end_renamed : (close : ℕ) → is_space close ≡ false → (e s : Bool) (cs : List ℕ)
      → title_end close e s (map f cs) ≡ option_map (map f) (title_end close e s cs)
  title_end_renamed close plain e s [] = refl
  title_end_renamed close plain e s (c ∷ cs) =
      let ends : ends_title close e (f c) ≡ ends_title close e c =
      ap (λ b. (b || (eqb close 41 && eqb (f c) 40)) && not e) (same_at close c plain)
      ∙ ap (λ b. (eqb c close || (eqb close 41 && b)) && not e) (same_at 40 c refl) in
      let more : title_end close (may_escape e (f c)) (at_line_start s (f c)) (map f cs)
      ≡ option_map (map f) (title_end close (may_escape e c) (at_line_start s c) cs) =
      ap (λ b. title_end close b (at_line_start s (f c)) (map f cs)) (escape_same e c)
      ∙ ap (λ b. title_end close (may_escape e c) b (map f cs)) (start_same s c)
      ∙ title_end_renamed close plain (may_escape e c) (at_line_start s c) cs in
      cond_same _ _ _ _ _ _ ends (cond_same _ _ _ _ _ _ (same_at close c plain) refl refl)
      (cond_same _ _ _ _ _ _ (ap (λ b. s && b) (renames.ending c)) refl more)
      ∙ deep_step (ends_title close e c) (eqb c close) (ends_blank_line s c) c cs (title_end close (may_escape e c) (at_line_start s c) cs)

  title_until_renamed : (close : ℕ) → is_space close ≡ false → (cs : List ℕ)
      → title_until (Some close) (map f cs) ≡ option_map (renamed_part f) (title_until (Some close) cs)
  title_until_renamed close plain cs =
      ap (closed_by (map f cs)) (title_end_renamed close plain false false cs) ∙ closed_renamed cs (title_end close false false cs)

  -- what closes a title is no space
  title_from_close : (c : ℕ) → is_space c ≡ false → (cs : List ℕ) → title_until (title_close c) (map f cs)
      ≡ option_map (renamed_part f) (title_until (title_close c) cs)
  title_from_close c plain cs = elim (cases_Bool (eqb c 34 || eqb c 39)) [
    | inl h ↦
        let e : title_close c ≡ Some c = cond-true (eqb c 34 || eqb c 39) _ _ h in
        ap (λ o. title_until o (map f cs)) e ∙ title_until_renamed c plain cs ∙ sym (ap (λ o. option_map (renamed_part f) (title_until o cs)) e)
    | inr h ↦ elim (cases_Bool (eqb c 40)) [
      | inl k ↦
          let e : title_close c ≡ Some 41 = cond-false (eqb c 34 || eqb c 39) _ _ h ∙ cond-true (eqb c 40) _ _ k in
          ap (λ o. title_until o (map f cs)) e ∙ title_until_renamed 41 refl cs ∙ sym (ap (λ o. option_map (renamed_part f) (title_until o cs)) e)
      | inr k ↦
          let e : title_close c ≡ None = cond-false (eqb c 34 || eqb c 39) _ _ h ∙ cond-false (eqb c 40) _ _ k in
          ap (λ o. title_until o (map f cs)) e ∙ sym (ap (λ o. option_map (renamed_part f) (title_until o cs)) e)
    ]
  ]

  -- a space opens no title
  no_title : (c : ℕ) → is_space c ≡ true → title_close c ≡ None
  no_title c h =
      cond-false (eqb c 34 || eqb c 39) _ _ (or_from (eqb c 34) (eqb c 39) (no_space 34 c refl h) (no_space 39 c refl h))
      ∙ cond-false (eqb c 40) _ _ (no_space 40 c refl h)

  pub title_renamed : (cs : List ℕ) → title_at (map f cs) ≡ option_map (renamed_part f) (title_at cs)
  title_renamed [] = refl
  title_renamed (c ∷ cs) = elim (cases_Bool (is_space c)) [
    | inl h ↦ ap (λ o. title_until o (map f cs)) (no_title (f c) (space_same c ∙ h))
        ∙ sym (ap (λ o. option_map (renamed_part f) (title_until o cs)) (no_title c h))
    | inr h ↦ ap (λ x. title_until (title_close x) (map f cs)) (renames.other c h) ∙ title_from_close c h cs
  ]

  line_after_renamed : (cs : List ℕ) → next_line_after (map f cs) ≡ option_map (map f) (next_line_after cs)
  line_after_renamed [] = refl
  line_after_renamed (c ∷ cs) = cond_same _ _ _ _ _ _ (renames.ending c) refl refl ∙ sym (map_cond (option_map (map f)) (is_eol c) (Some cs) None)

  line_renamed : (cs : List ℕ) → next_line (map f cs) ≡ option_map (map f) (next_line cs)
  line_renamed cs = ap next_line_after (spaces_renamed cs) ∙ line_after_renamed (after_spaces cs)

  definition_before_renamed : (label destination : List ℕ) (title rest : Option (List ℕ))
      → definition_before (map f label) (map f destination) (option_map (map f) title) (option_map (map f) rest)
      ≡ option_map (renamed_definition f) (definition_before label destination title rest)
  definition_before_renamed label destination title None = refl
  definition_before_renamed label destination title (Some rest) = refl

  with_title_renamed : (label destination : List ℕ) (title : Option Part)
      → with_title (map f label) (map f destination) (option_map (renamed_part f) title)
      ≡ option_map (renamed_definition f) (with_title label destination title)
  with_title_renamed label destination None = refl
  with_title_renamed label destination (Some title) =
      ap (definition_before (map f label) (map f destination) (Some (map f title.text))) (line_renamed title.rest)
      ∙ definition_before_renamed label destination (Some title.text) (next_line title.rest)

  titled_renamed : (label : List ℕ) (destination : Part) → definition_with_title (map f label) (renamed_part f destination)
      ≡ option_map (renamed_definition f) (definition_with_title label destination)
  titled_renamed label destination =
      let title = title_at (after_white destination.rest) in
      cond_same _ _ _ _ _ _ (begins_same destination.rest)
      (ap (λ cs. with_title (map f label) (map f destination.text) (title_at cs)) (white_renamed destination.rest)
      ∙ ap (with_title (map f label) (map f destination.text)) (title_renamed (after_white destination.rest))
      ∙ with_title_renamed label destination.text title)
      refl
      ∙ sym (map_cond (option_map (renamed_definition f)) (begins_with_space destination.rest) (with_title label destination.text title) None)

  untitled_renamed : (label : List ℕ) (destination : Part) → definition_without_title (map f label) (renamed_part f destination)
      ≡ option_map (renamed_definition f) (definition_without_title label destination)
  untitled_renamed label destination =
      ap (definition_before (map f label) (map f destination.text) None) (line_renamed destination.rest)
      ∙ definition_before_renamed label destination.text None (next_line destination.rest)

  or_untitled_renamed : (label : List ℕ) (destination : Part) (found : Option Definition)
      → or_definition_without_title (map f label) (renamed_part f destination) (option_map (renamed_definition f) found)
      ≡ option_map (renamed_definition f) (or_definition_without_title label destination found)
  or_untitled_renamed label destination None = untitled_renamed label destination
  or_untitled_renamed label destination (Some found) = refl

  with_destination_renamed : (label : List ℕ) (destination : Option Part)
      → with_destination (map f label) (option_map (renamed_part f) destination) ≡ option_map (renamed_definition f) (with_destination label destination)
  with_destination_renamed label None = refl
  with_destination_renamed label (Some destination) =
      ap (or_definition_without_title (map f label) (renamed_part f destination)) (titled_renamed label destination)
      ∙ or_untitled_renamed label destination (definition_with_title label destination)

  with_colon_renamed : (label cs : List ℕ) → with_colon (map f label) (map f cs) ≡ option_map (renamed_definition f) (with_colon label cs)
  with_colon_renamed label [] = refl
  with_colon_renamed label (c ∷ cs) =
      let destination = destination_at None (after_white cs) in
      cond_same _ _ _ _ _ _ (same_at 58 c refl)
      (ap (λ x. with_destination (map f label) (destination_at None x)) (white_renamed cs)
      ∙ ap (with_destination (map f label)) (destination_renamed None (after_white cs))
      ∙ with_destination_renamed label destination)
      refl
      ∙ sym (map_cond (option_map (renamed_definition f)) (eqb c 58) (with_destination label destination) None)

  with_label_renamed : (label : Option Part) → with_label (option_map (renamed_part f) label) ≡ option_map (renamed_definition f) (with_label label)
  with_label_renamed None = refl
  with_label_renamed (Some label) = with_colon_renamed label.text label.rest

  pub definition_renamed : (cs : List ℕ) → definition_at (map f cs) ≡ option_map (renamed_definition f) (definition_at cs)
  definition_renamed cs =
      ap (λ x. with_label (label_at x)) (spaces_renamed cs) ∙ ap with_label (label_renamed (after_spaces cs)) ∙ with_label_renamed (label_at (after_spaces cs))

-- a space for each column that is left of a tab
pub code_byte-renames : Renames code_byte
code_byte-renames = record {
  white = λ c. elim (cases_Bool (eqb c 256)) [
    | inl h ↦ ap is_white (cond-true (eqb c 256) _ _ h) ∙ sym (ap is_white (eqb-true c 256 h))
    | inr h ↦ ap is_white (cond-false (eqb c 256) _ _ h)
  ];
  ending = λ c. elim (cases_Bool (eqb c 256)) [
    | inl h ↦ ap is_eol (cond-true (eqb c 256) _ _ h) ∙ sym (ap is_eol (eqb-true c 256 h))
    | inr h ↦ ap is_eol (cond-false (eqb c 256) _ _ h)
  ];
  other = λ c plain. elim (cases_Bool (eqb c 256)) [
    | inl h ↦ absurd (true≢false (sym (ap is_space (eqb-true c 256 h)) ∙ plain))
    | inr h ↦ cond-false (eqb c 256) _ _ h
  ];
}
