-- Tokens of one line, one after another.
use Rattle.std.proofs.Common.{◌≡◌, ℕ, suc, ◌+◌, ◌^◌, ◌<◌, ◌≤◌, true, false, List, [], ◌∷◌, ◌++◌, refl, sym, ap, ◌∙◌, subst, length, arith}
use Rattle.parse_raw.proofs.Prelude.{after_bytes, AreNext, End, end_after, end_at, end_in, Follows, Name, next_after, no_void, same_name, standing, tokens}
use Rattle.parse_raw.proofs.Prelude.{void_nodes, Walk, whole_end, Writes, WritesFirst, WritesUpTo, written_to}
use Rattle.parse_raw.proofs.Prelude.{is_token, text_between}
use Rattle.engine_events.specs.declared.event.Name.TheVariants as n
use Rattle.parse_lines.proofs.Ahead.{follows_after}
use Rattle.parse_lines.proofs.Bytes.{apart_some, whole_between}
use Rattle.parse_strings.proofs.Spelled.{void_one}
use Rattle.parse_raw.specs.Before.{IsBefore}

some_size : (n : ℕ) → 0 < suc n
some_size n = omega arith

-- the nodes of a token of these bytes
void_tokens : (text : List ℕ) (name : Name) (e : End) (front : List ℕ) → e.owed ≡ 0 → same_name name n.Data ≡ false
    → void_nodes text name e (end_after e (length front)) ≡ tokens text name e.index front
void_tokens text name e [] whole other = no_void text name e e refl
void_tokens text name e (b ∷ bs) whole other = void_one text name e (suc (length bs)) whole (some_size (length bs)) other

-- after so many bytes
pub after_first : (e : End) (count : ℕ) → e.owed ≡ 0 → end_after e count ≡ end_at (e.index + count) 0
after_first e count whole = ap (λ (x : End). end_after x count) (whole_end e whole) ∙ after_bytes e.index count

fits_word : (i n m : ℕ) → i + n ≤ m → m < 2 ^ 61 → i + n < 2 ^ 64
fits_word i n m le small = omega (arith, le, small)

module _ {A : Type 0} (text : List ℕ) where
  -- a token of the next bytes, which ends there
  pub up_to_first : (old new : Walk A) (name : Name) (front line : List ℕ) (to : End) → same_name name n.Data ≡ false
      → (0 < length front → is_token name front ≡ true) → to ≡ end_after (end_in old.out) (length front)
      → standing new ≡ standing old → written_to new ≡ to → WritesUpTo name to old new
      → IsBefore text (front ++ line) old → WritesFirst text front (tokens text name (end_in old.out).index front) line old new
  up_to_first old new name front line to other may is same end writes at =
      let e = end_in old.out in
      let follows : Follows text e to = subst (Follows text e) (sym is) (follows_after text front line e at.next) in
      let bytes : text_between text e to ≡ front = ap (text_between text e) is ∙ whole_between text e front line at.whole at.next in
      let written = writes text at.order (record { follows = follows; bytes = λ apart. ap (is_token name) bytes ∙ may (apart_some e to front is apart) }) in
      let to_bytes : to ≡ end_at (e.index + length front) 0 = is ∙ after_first e (length front) at.whole in
      record {
        writes =
            subst (Writes text old.out new.out) (ap (void_nodes text name e) is ∙ void_tokens text name e front at.whole other) written;
        before = record {
          order = written.order;
          whole = ap (λ (x : End). x.owed) (end ∙ to_bytes);
          next = subst (λ (x : End). AreNext text x line) (sym (end ∙ is)) (next_after text front line e at.next);
          size = at.size;
        };
        same = same;
        index = ap (λ (x : End). x.index) (end ∙ to_bytes);
      }

  -- a token of so many bytes
  pub token_first : (old new : Walk A) (name : Name) (front line : List ℕ) (size : ℕ) → same_name name n.Data ≡ false
      → (0 < length front → is_token name front ≡ true) → size ≡ length front
      → standing new ≡ standing old
      → ((written_to old).index + size < 2 ^ 64 → written_to new ≡ end_at ((written_to old).index + size) 0)
      → ((written_to old).index + size < 2 ^ 64 → WritesUpTo name (end_at ((written_to old).index + size) 0) old new)
      → IsBefore text (front ++ line) old → WritesFirst text front (tokens text name (end_in old.out).index front) line old new
  token_first old new name front line size other may is same end writes at =
      let e = end_in old.out in
      let to : end_at (e.index + size) 0 ≡ end_after e (length front) =
      ap (λ k. end_at (e.index + k) 0) is ∙ sym (after_first e (length front) at.whole) in
      let follows = follows_after text front line e at.next in
      let within : e.index + size ≤ length text =
      subst (λ (x : End). x.index ≤ length text) (sym to) follows.within in
      let fits = fits_word e.index size (length text) within at.size in
      up_to_first old new name front line (end_at (e.index + size) 0) other may to same (end fits) (writes fits) at
