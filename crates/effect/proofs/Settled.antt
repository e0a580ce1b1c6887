-- The ways of settling a row, over variables.
use mathlib.Core.Path.{◌≡◌, refl, sym, ◌∙◌}
use mathlib.Core.List.{List}
use mathlib.Core.Bool.{Bool, true, false, ◌&&◌}
use Prim.Native.Nat.{ℕ, zero, suc, ◌≤◌, ◌<◌}
use native.Mathlib.Omega.{arith}
use lib.Dec.{eqb, leb}
use Rattle.std.specs.Prelude.{Option, Some, None}
use Rattle.refusal.specs.Refusals.{bad_field, no_reference_left, not_pinned, pins_full}
use Rattle.pool.specs.declared.Frame.{Frame}
use Rattle.pool.specs.declared.Pool.{Pool}
use Rattle.limit.specs.Limits.{reference_limit}
use Rattle.pool.specs.Sound.{sound_pool}
use Rattle.reference.specs.Search.{find_page, lowest_unused}
use Rattle.tally.specs.declared.Row.{Row}
use Rattle.tally.specs.Rows.{row, hit, miss_unused, miss_clean, unpin_done, refused_row}
use Rattle.effect.specs.Record.{pin_limit, pins_at}
use Rattle.effect.specs.declared.Asked.{Asked}
use Rattle.effect.specs.ForCode.{Framed, settled_hit, settled_miss, settled_reference, settled_unpin, asked, asked_by, settled_by, place_of}
use Rattle.effect.proofs.Ways.{found_few, unused_few}

-- a row that is settled so, in a frame
abbrev pub Settles : Row → Row → Type 0
Settles w v = (w ≡ v) × (w.frame < 128)

settles : (w v u : Row) → w ≡ v → v.frame < 128 → v ≡ u → Settles w u
settles w v u e l h = (e ∙ h, rw e l)

module _ (w : Row) where
  pub hit_full : (pins i : ℕ) (pin : Bool) → (pin && eqb pins pin_limit) ≡ true → w ≡ refused_row pins_full → Settles w (settled_hit pins i pin)
  hit_full pins i pin t e = settles w (refused_row pins_full) (settled_hit pins i pin) e (omega arith) (rw t)

  pub hit_free : (pins i : ℕ) (pin : Bool) → (pin && eqb pins pin_limit) ≡ false → i < 128 → w ≡ row hit i 0 0 → Settles w (settled_hit pins i pin)
  hit_free pins i pin t l e = settles w (row hit i 0 0) (settled_hit pins i pin) e l (rw t)

  pub miss_free : (f : Option ℕ) (i : ℕ) → f ≡ Some i → i < 128 → w ≡ row miss_unused i 0 0 → Settles w (settled_miss f)
  miss_free f i a l e = settles w (row miss_unused i 0 0) (settled_miss f) e l (rw a)

  pub miss_full : (f : Option ℕ) → f ≡ None → w ≡ row miss_clean 0 0 0 → Settles w (settled_miss f)
  miss_full f a e = settles w (row miss_clean 0 0 0) (settled_miss f) e (omega arith) (rw a)

module _ (k pins : ℕ) (found free : Option ℕ) (w : Row) where
  pub settle_limit : (pin : Bool) → leb reference_limit k ≡ true → w ≡ refused_row no_reference_left → Settles w (settled_reference k found pins free pin)
  unfolding settled_reference
  settle_limit pin t e = settles w (refused_row no_reference_left) (settled_reference k found pins free pin) e (omega arith) (rw t)

  pub settle_resident : (pin : Bool) (i : ℕ) → leb reference_limit k ≡ false → found ≡ Some i → Settles w (settled_hit pins i pin) → Settles w (settled_reference k found pins free pin)
  unfolding settled_reference
  settle_resident pin i t a e = (e.0 ∙ rw (t, a), e.1)

  pub settle_absent : (pin : Bool) → leb reference_limit k ≡ false → found ≡ None → Settles w (settled_miss free) → Settles w (settled_reference k found pins free pin)
  unfolding settled_reference
  settle_absent pin t a e = (e.0 ∙ rw (t, a), e.1)

  pub unpin_away : found ≡ None → w ≡ refused_row not_pinned → Settles w (settled_unpin found pins)
  unfolding settled_unpin
  unpin_away a e = settles w (refused_row not_pinned) (settled_unpin found pins) e (omega arith) (rw a)

  pub unpin_free : (i : ℕ) → found ≡ Some i → eqb pins 0 ≡ true → w ≡ refused_row not_pinned → Settles w (settled_unpin found pins)
  unfolding settled_unpin
  unpin_free i a t e = settles w (refused_row not_pinned) (settled_unpin found pins) e (omega arith) (rw (a, t))

  pub unpin_held : (i : ℕ) → found ≡ Some i → eqb pins 0 ≡ false → i < 128 → w ≡ row unpin_done i 0 0 → Settles w (settled_unpin found pins)
  unfolding settled_unpin
  unpin_held i a t l e = settles w (row unpin_done i 0 0) (settled_unpin found pins) e l (rw (a, t))

  -- by what is asked for
  module _ (asks : Asked) where
    pub settle_reference : asks.reference ≡ true → Settles w (settled_reference k found pins free asks.pin) → Settles w (settled_by k found pins free asks)
    unfolding settled_by
    settle_reference t e = (e.0 ∙ rw t, e.1)

    pub settle_unpin : asks.reference ≡ false → asks.unpin ≡ true → Settles w (settled_unpin found pins) → Settles w (settled_by k found pins free asks)
    unfolding settled_by
    settle_unpin f t e = (e.0 ∙ rw (f, t), e.1)

    pub settle_bad : asks.reference ≡ false → asks.unpin ≡ false → w ≡ refused_row bad_field → Settles w (settled_by k found pins free asks)
    unfolding settled_by
    settle_bad f t e = settles w (refused_row bad_field) (settled_by k found pins free asks) e (omega arith) (rw (f, t))

-- a bad kind asks for nothing
pub asked_bad : (kind : ℕ) → 4 ≤ kind → asked_by kind ≡ asked false false false false
asked_bad zero l = absurd (omega arith)
asked_bad (suc zero) l = absurd (omega arith)
asked_bad (suc (suc zero)) l = absurd (omega arith)
asked_bad (suc (suc (suc zero))) l = absurd (omega arith)
asked_bad (suc (suc (suc (suc kind)))) l = refl

-- what was found in a sound pool is a frame
pub found_framed : (fs : List Frame) (page : ℕ) (found : Option ℕ) → found ≡ find_page fs page → Framed found
found_framed fs page found e i h = found_few fs page i (sym e ∙ h)

pub free_framed : (p : Pool) (free : Option ℕ) → sound_pool p ≡ true → free ≡ lowest_unused p → Framed free
free_framed p free s e i h = unused_few p i s (sym e ∙ h)

-- the row, but where a victim is wanted
abbrev pub settled_of : Pool → ℕ → ℕ → Row
settled_of p page kind = settled_by p.k (find_page p.frames page) (pins_at p (place_of (find_page p.frames page))) (lowest_unused p) (asked_by kind)

-- the row of a record from what was found in its pool
pub settled_is : (p : Pool) (page kind pins : ℕ) (asks : Asked) (found free : Option ℕ) (w : Row) → asks ≡ asked_by kind → found ≡ find_page p.frames page → free ≡ lowest_unused p
    → pins ≡ pins_at p (place_of found) → w ≡ settled_by p.k found pins free asks → w ≡ settled_of p page kind
settled_is p page kind pins asks found free w q a b c e = e ∙ rw (c, b, a, q)
