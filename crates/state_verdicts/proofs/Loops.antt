-- States that go on over a stretch of bytes.
use Rattle.std.proofs.Common.{◌≡◌, ◌∙◌, ℕ, ◌+◌, ◌<◌, ◌≤◌, ◌⊎◌, Bool, true, false, List, Option, Some, None, inl, inr, refl, ap, subst, arith}
use Rattle.state_verdicts.proofs.Prelude.{as_byte, byte_of, cases_lt, Config, Context, ended, feed, has, Inlines, longer, Name, plain, Point, run, Stretch}
use Rattle.state_verdicts.proofs.Prelude.{Text, VirtualByte}
use Rattle.engine_states.specs.declared.state.State.TheVariants as states
use Rattle.markdown_engine.specs.Reading.{next, place_after, retry}
use Rattle.state_inline.specs.Inlines.{bodies}
use Rattle.state_verdicts.specs.Verdicts.{Reads}
use Rattle.state_verdicts.proofs.Turns.{on_retry}

-- the byte of a place, or the end there, was handed in
pub record At (text : Text) (c : Config Inlines) (q : Point) : Type 0 where
  pub point : c.point ≡ text.start q
  pub current : c.current ≡ byte_of (text.byte (text.start q))
  pub next : (v : VirtualByte) → text.byte (text.start q) ≡ Some v → c.next ≡ v.next

-- the next one is handed in
pub fed : (text : Text) (c : Config Inlines) (q : Point) → c.point ≡ q → At text (feed text c) q
fed text c q e = subst (λ (p : Point). At text (feed text c) p) e (record { point = refl; current = refl; next = λ v h. ap (place_after c.next) h })

-- the byte that was handed in
pub byte_at : {text : Text} {c : Config Inlines} {q r : Point} {b : ℕ} → At text c q → text.byte (text.start q) ≡ Some (as_byte b r) → c.current ≡ Some b
byte_at h e = h.current ∙ ap byte_of e

pub end_at : {text : Text} {c : Config Inlines} {q : Point} → At text c q → text.byte (text.start q) ≡ None → c.current ≡ None
end_at h e = h.current ∙ ap byte_of e

-- the same byte, whatever else was done
pub still_at : {text : Text} {c d : Config Inlines} {q : Point} → d.point ≡ c.point → d.current ≡ c.current → d.next ≡ c.next → At text c q → At text d q
still_at p k n h = record { point = p ∙ h.point; current = k ∙ h.current; next = λ v e. n ∙ h.next v e }

-- where a stretch ends
pub stops : {text : Text} {is : ℕ → Bool} {k : ℕ} {q r : Point} → Stretch text is k q r → has is (byte_of (text.byte (text.start r))) ≡ false
stops (ended h) = h
stops (longer e k rest) = stops rest

module _ {T : Type 0} (texts : List ℕ → Option (List ℕ)) (is_punctuation : ℕ → Bool) (x : Context T) (text : Text) where
  -- a state at the next byte is the state once that is handed in
  pub on_fed : (n : Name) (c d : Config Inlines) (w : Bool) → Reads texts is_punctuation x text (feed text c) (states.Retry n) d w
      → Reads texts is_punctuation x text c (states.Next n) d w
  unfolding Reads
  on_fed n c d w (retry r) = next r

  -- a state goes on to a state at the next byte
  pub goes_to : (m n : Name) (c e d : Config Inlines) (w : Bool) → run (bodies texts is_punctuation x m) c ≡ plain e (states.Next n)
      → Reads texts is_punctuation x text (feed text e) (states.Retry n) d w
      → Reads texts is_punctuation x text c (states.Retry m) d w
  unfolding Reads
  goes_to m n c e d w h r = on_retry texts is_punctuation x text m c d w (plain e (states.Next n)) h (on_fed n e d w r)

  -- a state hands the same byte to another
  pub stays_to : (m n : Name) (c e d : Config Inlines) (w : Bool) → run (bodies texts is_punctuation x m) c ≡ plain e (states.Retry n)
      → Reads texts is_punctuation x text e (states.Retry n) d w
      → Reads texts is_punctuation x text c (states.Retry m) d w
  unfolding Reads
  stays_to m n c e d w h r = on_retry texts is_punctuation x text m c d w (plain e (states.Retry n)) h r

  -- where a state stands once it went over a stretch
  pub record Over (name : Name) (holds : ℕ → Config Inlines → Type 0) (c : Config Inlines) (count : ℕ) (q : Point) : Type 0 where
    pub config : Config Inlines
    pub held : holds count config
    pub at : At text config q
    pub back : (d : Config Inlines) (w : Bool) → Reads texts is_punctuation x text config (states.Retry name) d w
        → Reads texts is_punctuation x text c (states.Retry name) d w

  -- a state that goes on at each byte of a sort, doing this, under which something holds of the count and the configuration
  module _ (name : Name) (is : ℕ → Bool) (go : Config Inlines → Config Inlines) (holds : ℕ → Config Inlines → Type 0)
      (does : (n b : ℕ) (c : Config Inlines) → holds n c → c.current ≡ Some b → is b ≡ true
      → run (bodies texts is_punctuation x name) c ≡ plain (go c) (states.Next name))
      (keeps : (n b : ℕ) (c : Config Inlines) → holds n c → c.current ≡ Some b → is b ≡ true → holds (n + 1) (feed text (go c)))
      (passes : (c : Config Inlines) → (go c).point ≡ c.next) where
    pub over : {k : ℕ} {q r : Point} → Stretch text is k q r → (j : ℕ) (c : Config Inlines) → holds j c → At text c q → Over name holds c (j + k) r
    over (ended stop) j c h at = record { config = c; held = subst (λ (n : ℕ). holds n c) (omega arith) h; at = at; back = λ d w r. r }
    over (longer {n = n} {b = b} {q = q} e k rest) j c h at =
        let here = byte_at at e in
        let f = over rest (j + 1) (feed text (go c)) (keeps j b c h here k) (fed text (go c) q (passes c ∙ at.next (as_byte b q) e)) in
        record {
          config = f.config;
          held = subst (λ (i : ℕ). holds i f.config) (let s : j + 1 + n ≡ j + (n + 1) = omega arith in s) f.held;
          at = f.at;
          back = λ d w r. goes_to name name c (go c) d w (does j b c h here k) (f.back d w r);
        }

  -- where a state stands once it went over a stretch, or over so many bytes of it as it takes
  pub record StretchEnd (name : Name) (is : ℕ → Bool) (most : ℕ) (holds : ℕ → Config Inlines → Type 0)
      (c : Config Inlines) (total : ℕ) (q : Point) : Type 0 where
    pub config : Config Inlines
    pub count : ℕ
    pub place : Point
    pub held : holds count config
    pub at : At text config place
    pub back : (d : Config Inlines) (w : Bool) → Reads texts is_punctuation x text config (states.Retry name) d w
        → Reads texts is_punctuation x text c (states.Retry name) d w
    pub ends : ((total ≤ most) × (count ≡ total) × (place ≡ q)) ⊎ ((most < total) × (count ≡ most) × (has is config.current ≡ true))

  module _ (name : Name) (is : ℕ → Bool) (most : ℕ) (go : Config Inlines → Config Inlines) (holds : ℕ → Config Inlines → Type 0)
      (does : (n b : ℕ) (c : Config Inlines) → holds n c → n < most → c.current ≡ Some b → is b ≡ true
      → run (bodies texts is_punctuation x name) c ≡ plain (go c) (states.Next name))
      (keeps : (n b : ℕ) (c : Config Inlines) → holds n c → n < most → c.current ≡ Some b → is b ≡ true → holds (n + 1) (feed text (go c)))
      (passes : (c : Config Inlines) → (go c).point ≡ c.next) where
    pub over_capped : {k : ℕ} {q r : Point} → Stretch text is k q r → (j : ℕ) (c : Config Inlines) → holds j c → At text c q → j ≤ most
        → StretchEnd name is most holds c (j + k) r
    over_capped {q = q} (ended stop) j c h at low =
        record { config = c; count = j; place = q; held = h; at = at; back = λ d w r. r; ends = inl (omega (arith, low), omega arith, refl) }
    over_capped {r = end} (longer {n = n} {b = b} {p = p} {q = q} e k rest) j c h at low = elim (cases_lt j most) [
      | inl less ↦
          let here = byte_at at e in
          let f = over_capped rest (j + 1) (feed text (go c)) (keeps j b c h less here k) (fed text (go c) q (passes c ∙ at.next (as_byte b q) e))
          (omega (arith, less)) in
          record {
            config = f.config;
            count = f.count;
            place = f.place;
            held = f.held;
            at = f.at;
            back = λ d w r. goes_to name name c (go c) d w (does j b c h less here k) (f.back d w r);
            ends = subst (λ (i : ℕ). ((i ≤ most) × (f.count ≡ i) × (f.place ≡ end))
                ⊎ ((most < i) × (f.count ≡ most) × (has is f.config.current ≡ true))) (let s : j + 1 + n ≡ j + (n + 1) = omega arith in s) f.ends;
          }
      | inr full ↦ record {
        config = c;
        count = j;
        place = p;
        held = h;
        at = at;
        back = λ d w r. r;
        ends = inr (omega (arith, full), omega (arith, full, low), ap (has is) (byte_at at e) ∙ k);
      }
    ]
