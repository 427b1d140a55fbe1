-- Bytes of one sort that stand together.
use Rattle.std.specs.Prelude.{◌≡◌, ℕ, ◌+◌, Bool, true, false, Some}
use Rattle.engine_events.specs.declared.place.Point.{Point}
use Rattle.markdown_engine.specs.Reading.{byte_of}
use Rattle.markdown_engine.specs.VirtualText.{Text, as_byte}
use Rattle.engine_programs.specs.Bodies.{has}

-- so many bytes of a sort lead from a place to another, at which none of that sort stands
pub data Stretch (text : Text) (is : ℕ → Bool) : ℕ → Point → Point → Type 0 where
  ended : {p : Point} → has is (byte_of (text.byte (text.start p))) ≡ false → Stretch text is 0 p p
  longer : {n b : ℕ} {p q r : Point} → text.byte (text.start p) ≡ Some (as_byte b q) → is b ≡ true → Stretch text is n q r → Stretch text is (n + 1) p r
