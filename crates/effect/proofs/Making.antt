-- Making room, over variables.
use mathlib.Core.Path.{◌≡◌, ap, sym, subst, ◌∙◌}
use mathlib.Core.Bool.{true, false}
use mathlib.Core.List.{List}
use Prim.Native.Nat.{ℕ, ◌+◌, ◌≤◌, ◌<◌}
use native.Mathlib.Omega.{arith}
use lib.ListN.{length}
use Rattle.std.specs.Prelude.{Option, Some, None}
use Rattle.search.specs.Search.{pick}
use Rattle.refusal.specs.Refusals.{no_frame}
use Rattle.settings.proofs.Laws.{ranges}
use Rattle.pool.specs.declared.Frame.{Frame}
use Rattle.pool.specs.declared.Pool.{Pool}
use Rattle.pool.specs.Pool.{frame_at, with_frames}
use Rattle.pool.specs.Sound.{sound_pool}
use Rattle.pool.proofs.Sound.{Sound, told, made}
use Rattle.table.specs.declared.Bench.{Bench}
use Rattle.table.specs.Table.{frames_in, pool_on}
use Rattle.victim.specs.Choice.{Choice, left_by}
use Rattle.victim.specs.ForCode.{Chose}
use Rattle.victim.specs.Rules.{choice_of}
use Rattle.victim.proofs.Rules.{choice_owes}
use Rattle.batch.specs.Batch.{batch_of}
use Rattle.batch.specs.ForCode.{Batchable, WrittenBy}
use Rattle.batch.proofs.Cleaned.{pages_length}
use Rattle.batch.proofs.Laws.{batch_length}
use Rattle.tally.specs.declared.Row.{Row}
use Rattle.tally.specs.Rows.{row, miss_clean, miss_dirty, refused_row}
use Rattle.effect.specs.ForCode.{room_row, room_pages, room_frames, RoomMade, wanted, RoomAsked, RoomWhere}

module _ (p : Pool) (s : sound_pool p ≡ true) (found : Option ℕ) (b : Bench) (h : Chose p (choice_of p) found b) where
  abbrev c : Choice
  c = choice_of p

  sound : Sound p
  sound = told p s

  victim : (v : ℕ) → found ≡ Some v → c.found ≡ Some v
  victim v a = sym (ap (λ (x : Choice). x.found) h.choice) ∙ a

  -- the victim is a frame
  pub chosen_few : (v : ℕ) → found ≡ Some v → v < 128
  chosen_few v a =
      let o = (choice_owes.unpinned p v sound (victim v a)).0 in
      let f = (ranges p.settings sound.settings).frames.1 in
      omega arith

  still_sound : Sound (pool_on b)
  still_sound = subst Sound (sym h.left) (choice_owes.sound p sound)

  room_length : (v : ℕ) → c.found ≡ Some v → length (room_pages p) ≡ length (batch_of (left_by p c) v)
  unfolding room_pages
  room_length v a = rw a (pages_length c.frames (batch_of (left_by p c) v))

  pub chosen_batchable : (at places v : ℕ) → found ≡ Some v → at + length (room_pages p) ≤ places → Batchable (pool_on b) v at places
  chosen_batchable at places v a room = record {
    sound = made (pool_on b) still_sound;
    frame = chosen_few v a;
    room =
        let n = room_length v (victim v a) in
        let m = ap (λ (q : Pool). length (batch_of q v)) h.left in
        omega arith;
  }

  pub chosen_short : (v : ℕ) → length (batch_of (pool_on b) v) < 128
  chosen_short v = let n = batch_length (pool_on b) still_sound v in let r = (ranges (pool_on b).settings still_sound.settings).batch.1 in omega arith

  pub room_made : (at v n : ℕ) (b' : Bench) (fr : Frame) (w : Row) (before after : List ℕ) → found ≡ Some v → b' ≡ record b { table = b'.table } → WrittenBy (pool_on b) v at n b'.table before after
      → fr ≡ frame_at (frames_in b.table) v → w ≡ row (pick fr.dirty miss_dirty miss_clean) v fr.page n → RoomMade p at w b' before after
  unfolding room_row room_pages room_frames
  room_made at v n b' fr w before after a rest o d x =
      let l = chosen_few v a in
      let f = victim v a in
      let wrote = subst (λ (q : Pool). WrittenBy q v at n b'.table before after) h.left o in
      let same : fr ≡ frame_at c.frames v = subst (λ (q : Pool). fr ≡ frame_at q.frames v) h.left d in
      let kept : pool_on b' ≡ with_frames (left_by p c) (frames_in b'.table) = ap pool_on rest ∙ ap (λ (q : Pool). with_frames q (frames_in b'.table)) h.left in
      record {
        row = x ∙ rw (same, wrote.counted, f);
        pool = kept ∙ rw (wrote.frames, f);
        list = wrote.list ∙ rw f;
        frame = rw x l;
      }

  pub room_none : (at : ℕ) (w : Row) (list : List ℕ) → found ≡ None → w ≡ refused_row no_frame → RoomMade p at w b list list
  unfolding room_row room_pages room_frames
  room_none at w list a x =
      let f : c.found ≡ None = sym (ap (λ (x : Choice). x.found) h.choice) ∙ a in
      record {
        row = x ∙ rw f;
        pool = h.left ∙ rw f;
        list = rw f;
        frame = rw x (omega arith);
      }

-- with a settled row
module _ (p : Pool) (w : Row) where
  pub asked_room : (at places : ℕ) → wanted p w ≡ true → RoomAsked p w at places → at + length (room_pages p) ≤ places
  asked_room at places e h = rw e at h.room

  pub room_wanted : (at : ℕ) (r : Row) (b : Bench) (before after : List ℕ) → wanted p w ≡ true → RoomMade p at r b before after → RoomWhere p w at r b before after
  room_wanted at r b before after e m = record { row = rw e m.row; pool = rw e m.pool; list = rw e m.list; frame = m.frame }

  pub room_unwanted : (at : ℕ) (b : Bench) (list : List ℕ) → wanted p w ≡ false → pool_on b ≡ p → w.frame < 128 → RoomWhere p w at w b list list
  room_unwanted at b list e q l = record { row = rw e; pool = rw e q; list = rw e; frame = l }
