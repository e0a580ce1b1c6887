-- The reader and the writer by their contracts: each undoes the other, and the writer's contract allows one outcome.
use mathlib.Core.Path.{◌≡◌, ap, sym, ◌∙◌}
use mathlib.Core.Bool.{true}
use mathlib.Core.List.{List}
use Prim.Native.Nat.{ℕ, ◌≤◌}
use native.Mathlib.Omega.{arith}
use lib.ListN.{length, take}
use lib.Seq.{sets}
use lib.Dec.{leb}
use borrow.Author.Tests.{leb-true, le-leb}
use Rattle.word.specs.declared.Order.{Order}
use Rattle.word.proofs.Laws.{Bytes, sets_front}
use Rattle.refusal.specs.Refusals.{demand, no_room}
use Rattle.refusal.proofs.Laws.{met, neither}
use Rattle.pool.specs.declared.Pool.{Pool}
use Rattle.pool.specs.Pool.{opened, Opened}
use Rattle.pool.specs.Sound.{sound_pool, pool_refusal}
use Rattle.pool.proofs.ByFrame.{passed_sound}
use Rattle.image.specs.Layout.{image_length, used_in, encode_pool}
use Rattle.image.specs.Image.{image_refusal, order_of, pool_of, image_of, saving_refusal, SavedTo, Typed}
use Rattle.image.proofs.Back.{length_image, image_back}
use Rattle.image.proofs.Again.{read_told, read_number, read_pool, image_again, image_typed}

module _ (p : Pool) (o : Order) (out : List ℕ) where
  -- where nothing is refused the pool is sound, and there is room
  pub save_grants : (out' : List ℕ) → SavedTo p o out 0 out' → (sound_pool p ≡ true) × (image_length (used_in p) ≤ length out) × (out' ≡ sets out 0 (encode_pool o p))
  unfolding saving_refusal
  save_grants out' x =
      let room = leb (image_length (used_in p)) (length out) in
      let n = neither (pool_refusal p) (demand room no_room 0) (sym x.answers) in
      let m = met room no_room 0 (omega arith) n.1 in
      (passed_sound p n.0, leb-true (image_length (used_in p)) (length out) m.0, x.bytes_hold ∙ rw (← x.answers))

  -- writing, then reading
  pub save_read : (out' : List ℕ) → Typed p → SavedTo p o out 0 out' → image_of (take (image_length (used_in p)) out') ≡ opened 0 p
  save_read out' ty x =
      let g = save_grants out' x in
      let long = length_image o p ty g.0 in
      ap image_of (ap (take (image_length (used_in p))) g.2 ∙ sets_front out (encode_pool o p) (image_length (used_in p)) long g.1) ∙ image_back o p ty g.0

-- a sound pool is not refused where there is room
pub save_granted : (p : Pool) (room : ℕ) → sound_pool p ≡ true → image_length (used_in p) ≤ room → saving_refusal p room ≡ 0
unfolding saving_refusal pool_refusal
save_granted p room ok l = rw (ok, le-leb (image_length (used_in p)) room l)

module _ (s : List ℕ) (bs : Bytes s) (z : (image_of s).refusal ≡ 0) where
  abbrev none : image_refusal s ≡ 0
  none = sym (read_number s) ∙ z

  pub pool_read : (image_of s).pool ≡ pool_of s
  pool_read = ap (λ (a : Opened). a.pool) (read_pool s none)

  -- the bytes are the encoding of the pool that was read
  pub read_encodes : encode_pool (order_of s) (image_of s).pool ≡ s
  read_encodes = ap (encode_pool (order_of s)) pool_read ∙ image_again s bs none

  pub read_sound : sound_pool (image_of s).pool ≡ true
  read_sound = rw pool_read (read_told s none).1

  pub read_typed : Typed (image_of s).pool
  read_typed = rw pool_read (image_typed s bs none)

  pub read_length : length s ≡ image_length (used_in (image_of s).pool)
  read_length = ap length (sym read_encodes) ∙ length_image (order_of s) (image_of s).pool read_typed read_sound

  -- reading, then writing
  pub read_save : (out : List ℕ) → length s ≤ length out → (r : ℕ) (out' : List ℕ) → SavedTo (image_of s).pool (order_of s) out r out' → (r ≡ 0) × (out' ≡ sets out 0 s)
  read_save out fits r out' x =
      let long = read_length in
      let zero : saving_refusal (image_of s).pool (length out) ≡ 0 = save_granted (image_of s).pool (length out) read_sound (omega arith) in
      (x.answers ∙ zero, x.bytes_hold ∙ rw zero (ap (sets out 0) read_encodes))

-- two images of one order that read as one pool are the same bytes
pub one_image : (s₁ s₂ : List ℕ) → Bytes s₁ → Bytes s₂ → (image_of s₁).refusal ≡ 0 → (image_of s₂).refusal ≡ 0 → order_of s₁ ≡ order_of s₂ → (image_of s₁).pool ≡ (image_of s₂).pool → s₁ ≡ s₂
one_image s₁ s₂ b₁ b₂ z₁ z₂ o e = sym (read_encodes s₁ b₁ z₁) ∙ rw (o, e) (read_encodes s₂ b₂ z₂)
