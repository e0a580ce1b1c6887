-- The image of the renamed pool is the image with its pages renamed, and the demand holds from images.
use mathlib.Core.Path.{◌≡◌, refl, ap, sym, ◌∙◌}
use mathlib.Core.Bool.{Bool, true}
use mathlib.Core.List.{List, [], ◌∷◌, ◌++◌, append_assoc, append-nil}
use mathlib.Core.Logic.{⊎_elim, ◌⊎◌, inl, inr}
use Prim.Native.Nat.{ℕ, zero, suc, ◌+◌, ◌-◌, ◌*◌, ◌≤◌, ◌<◌}
use native.Mathlib.Nat.{eq-zero-or-pos}
use native.Mathlib.Omega.{arith}
use lib.ListN.{length, take, drop, length-append, length-map, take-append-drop, get_or-eq_default}
use lib.Seq.{sets, sets-eq, take_at, drop-drop, drop-append-le, drop-append-add, drop-length}
use Rattle.word.specs.Number.{bytes_of}
use Rattle.word.specs.declared.Order.{Order}
use Rattle.word.specs.declared.Order.TheVariants.{High, Low}
use Rattle.word.proofs.Laws.{bytes_of_lem, length_bytes}
use Rattle.search.proofs.Among.{among_second}
use Rattle.search.proofs.Count.{count_cong}
use Rattle.trace.specs.Check.{trace_of}
use Rattle.pool.specs.declared.Frame.{Frame}
use Rattle.pool.specs.declared.Pool.{Pool}
use Rattle.pool.specs.Pool.{frame_at, empty_frame, with_page, Opened}
use Rattle.refusal.specs.Refusals.{stored}
use Rattle.pool.specs.Sound.{sound_pool, pool_refusal}
use Rattle.pool.proofs.Sound.{told, made}
use Rattle.entry.specs.Run.{run_of}
use Rattle.entry.specs.Entry.{page_in, frame_in, field_bytes, entry_bytes}
use Rattle.entry.proofs.Run.{run_none, run_more, run_length, run_at}
use Rattle.image.specs.Layout.{image_length, used_in, header_bytes, encode_pool}
use Rattle.image.specs.Image.{order_of, image_of, saving_refusal, Typed}
use Rattle.image.proofs.Laws.{order_is, length_header, length_entry}
use Rattle.image.proofs.Back.{used_few, in_use_lem, entry, mark, used_back, sizes, image_back}
use Rattle.image.proofs.Undo.{read_encodes, read_sound, read_typed}
use Rattle.replay.specs.Replay.{replay_of}
use Rattle.replay.specs.Calls.{counts_of}
use Rattle.rename.specs.Renamed.{held_page, renamed_frame, renamed_pool, renamed_bytes}
use Rattle.rename.specs.Sameness.{resident_pages, Renames, Given}
use Rattle.rename.specs.Images.{pages_set, renamed_image, SavedDemand, WrittenDemand, LoadedDemand, ImageDemand, StepFromImage}
use Rattle.rename.proofs.Frames.{frame_renamed}
use Rattle.rename.proofs.Pages.{residents_listed}
use Rattle.rename.proofs.Sound.{sound_renamed, pages_fit}
use Rattle.rename.proofs.Sameness.{only_sameness}
use Rattle.rename.proofs.Calls.{replay_alike, counts_alike}
use Rattle.rename.proofs.Steps.{step_alike}

-- the first four bytes of the fields are the page's
fields_paged : (o : Order) (fr : Frame) (page : ℕ) (rest : List ℕ) → field_bytes o (with_page fr page) ++ rest ≡ bytes_of o 4 page ++ drop 4 (field_bytes o fr ++ rest)
unfolding field_bytes
fields_paged High fr page rest = refl
fields_paged Low fr page rest = refl

-- stores that end where a part begins leave what follows
sets_part : (xs part zs bytes : List ℕ) (at : ℕ) → length xs ≡ at → length bytes ≡ 4 → 4 ≤ length part → sets (xs ++ (part ++ zs)) at bytes ≡ xs ++ ((bytes ++ drop 4 part) ++ zs)
sets_part xs part zs bytes at n b l =
    let n' = length-append xs (part ++ zs) in
    let m = length-append part zs in
    let past : at + length bytes ≡ length xs + 4 = omega arith in
    sets-eq bytes (xs ++ (part ++ zs)) at (omega arith)
    ∙ ap (λ (x : List ℕ). x ++ bytes ++ drop (at + length bytes) (xs ++ (part ++ zs))) (take_at xs (part ++ zs) at n)
    ∙ ap (λ (k : ℕ). xs ++ bytes ++ drop k (xs ++ (part ++ zs))) past
    ∙ ap (λ (x : List ℕ). xs ++ bytes ++ x) (drop-append-add xs (part ++ zs) 4 ∙ drop-append-le 4 part zs l)
    ∙ append_assoc xs bytes (drop 4 part ++ zs)
    ∙ ap (λ (x : List ℕ). xs ++ x) (sym (append_assoc bytes (drop 4 part) zs))

module _ (ρ : ℕ → ℕ) (p : Pool) (ty : Typed p) (ok : sound_pool p ≡ true) (names : Renames ρ (resident_pages p.frames)) where
  abbrev r : Pool
  r = renamed_pool ρ p

  abbrev u : ℕ
  u = used_in p

  used_renamed : used_in r ≡ u
  unfolding used_in
  used_renamed = count_cong (λ i. (frame_at r.frames i).used) (λ i. (frame_at p.frames i).used) 128 (λ i _. ap (λ (fr : Frame). fr.used) (frame_renamed ρ p.frames i))

  pub sound_still : sound_pool r ≡ true
  sound_still = made r (sound_renamed ρ (resident_pages p.frames) names p (told p ok) (residents_listed p.frames))

  -- the types say the same of it
  pub typed_still : Typed r
  typed_still =
      let long : length r.frames ≡ 128 = length-map p.frames (renamed_frame ρ) ∙ ty.frames in
      let near : (i : ℕ) → (i < 128) ⊎ (128 ≤ i) = λ i. ⊎_elim (λ q. inr (omega arith)) (λ q. inl (omega arith)) (eq-zero-or-pos (128 - i)) in
      record {
        frames = long;
        access = ty.access;
        write = ty.write;
        page = λ i. ⊎_elim
            (λ (b : i < 128). pages_fit ρ (resident_pages p.frames) names p (told p ok) (residents_listed p.frames) i b)
            (λ (b : 128 ≤ i). rw (get_or-eq_default r.frames empty_frame {n = i} (omega arith)) (omega arith))
            (near i);
        pins = λ i. rw (frame_renamed ρ p.frames i) (ty.pins i);
        sampler = ty.sampler;
        seed = ty.seed;
      }

  module _ (o : Order) where
    abbrev head : List ℕ
    head = header_bytes o p u

    abbrev whole : List ℕ
    whole = run_of (entry_bytes o p) u

    abbrev image : List ℕ
    image = encode_pool o p

    -- entry i of the renamed pool
    entry_renamed : (i : ℕ) → i < u → entry_bytes o r i ≡ bytes_of o 4 (ρ (frame_at p.frames i).page) ++ drop 4 (entry_bytes o p i)
    unfolding entry_bytes
    entry_renamed i l =
        let fr = frame_at p.frames i in
        let e : frame_at r.frames i ≡ with_page fr (ρ fr.page) = frame_renamed ρ p.frames i ∙ ap (λ (b : Bool). with_page fr (held_page ρ b fr.page)) (in_use_lem o p ty ok i l) in
        rw e (append_assoc (field_bytes o (with_page fr (ρ fr.page))) _ _ ∙ fields_paged o fr (ρ fr.page) _ ∙ ap (λ (x : List ℕ). bytes_of o 4 (ρ fr.page) ++ drop 4 x) (sym (append_assoc (field_bytes o fr) _ _)))

    page_there : (i : ℕ) → i < u → page_in o image (image_length i) ≡ (frame_at p.frames i).page
    unfolding frame_in
    page_there i l = ap (λ (fr : Frame). fr.page) ((entry o p ty ok i l).frame (in_use_lem o p ty ok i l))

    -- the rest of the entries from n on begins with entry n
    rest_first : (n : ℕ) → n < u → drop (n * 68) whole ≡ entry_bytes o p n ++ drop (suc n * 68) whole
    rest_first n l =
        let at = drop (n * 68) whole in
        let one : take 68 at ≡ entry_bytes o p n = ap (λ (x : List ℕ). take 68 (drop (n * 68) x)) (sym (append-nil whole)) ∙ run_at (entry_bytes o p) 68 128 (length_entry o p (sizes o p ty ok)) u (used_few o p ty ok) n l [] in
        let e : n * 68 + 68 ≡ suc n * 68 = omega arith in
        sym (take-append-drop 68 at) ∙ ap (λ (x : List ℕ). x ++ drop 68 at) one ∙ ap (λ (x : List ℕ). entry_bytes o p n ++ x) (drop-drop 68 (n * 68) whole ∙ ap (λ (k : ℕ). drop k whole) e)

    -- n entries renamed, the rest as they were
    pages_set_lem : (n : ℕ) → n ≤ u → pages_set ρ o image n ≡ head ++ run_of (entry_bytes o r) n ++ drop (n * 68) whole
    unfolding pages_set encode_pool
    pages_set_lem zero l = let e : 0 ≡ 0 * 68 = omega arith in rw (run_none (entry_bytes o r), append-nil head) (ap (λ (k : ℕ). head ++ drop k whole) e)
    pages_set_lem (suc n) l =
        let b : n < u = omega arith in
        let few = used_few o p ty ok in
        let front = head ++ run_of (entry_bytes o r) n in
        let long : length front ≡ image_length n =
        length-append head (run_of (entry_bytes o r) n)
        ∙ rw (length_header o p u, run_length (entry_bytes o r) 68 128 (length_entry o r (sizes o r typed_still sound_still)) n (omega arith)) (omega arith) in
        let part = entry_bytes o p n in
        let zs = drop (suc n * 68) whole in
        let bytes = bytes_of o 4 (ρ (frame_at p.frames n).page) in
        let size = length_entry o p (sizes o p ty ok) n (omega arith) in
        let e : n + 1 ≡ suc n = omega arith in
        rw (pages_set_lem n (omega arith), page_there n b, rest_first n b)
        (sets_part front part zs bytes (image_length n) long (length_bytes o 4 _) (omega arith)
        ∙ ap (λ (x : List ℕ). front ++ (x ++ zs)) (sym (entry_renamed n b))
        ∙ sym (append_assoc front (entry_bytes o r n) zs)
        ∙ ap (λ (x : List ℕ). x ++ zs) (append_assoc head (run_of (entry_bytes o r) n) (entry_bytes o r n) ∙ ap (λ (x : List ℕ). head ++ x) (sym (run_more (entry_bytes o r) n) ∙ ap (run_of (entry_bytes o r)) e)))

    image_renamed : encode_pool o r ≡ renamed_image ρ image
    unfolding renamed_image encode_pool header_bytes
    image_renamed =
        let few = used_few o p ty ok in
        let long = run_length (entry_bytes o p) 68 128 (length_entry o p (sizes o p ty ok)) u few in
        let all : drop (u * 68) whole ≡ [] = ap (λ (k : ℕ). drop k whole) (sym long) ∙ drop-length whole in
        let here : renamed_image ρ image ≡ pages_set ρ o image u =
        rw (order_is o image (mark o p ty ok)) (ap (pages_set ρ o image) (used_back o p ty ok)) in
        ap (λ (k : ℕ). header_bytes o r k ++ run_of (entry_bytes o r) k) used_renamed
        ∙ sym (here ∙ pages_set_lem u (omega arith) ∙ ap (λ (x : List ℕ). head ++ run_of (entry_bytes o r) u ++ x) all ∙ append-nil (head ++ run_of (entry_bytes o r) u))

pub saved_alike : SavedDemand
saved_alike ρ p ty ok names o = image_renamed ρ p ty ok names o

pub written_alike : WrittenDemand
unfolding saving_refusal pool_refusal
written_alike ρ p ty ok names o out r₁ r₂ out₁ out₂ x y =
    let q = renamed_pool ρ p in
    let same : saving_refusal q (length out) ≡ saving_refusal p (length out) = rw (sound_still ρ p ty ok names, ok, used_renamed ρ p ty ok names) in (
      y.answers ∙ same ∙ sym x.answers,
      y.bytes_hold ∙ ap (λ (r : ℕ). stored r (encode_pool o q) out) (same ∙ sym x.answers) ∙ ap (λ (e : List ℕ). stored r₁ e out) (saved_alike ρ p ty ok names o),
    )

pub loaded_alike : LoadedDemand
loaded_alike ρ m bytes z names =
    let bs = bytes_of_lem m bytes in
    let p = (image_of m).pool in
    let o = order_of m in
    let ty = read_typed m bs z in
    let ok = read_sound m bs z in
    ap (λ (x : List ℕ). image_of (renamed_image ρ x)) (sym (read_encodes m bs z))
    ∙ ap image_of (sym (saved_alike ρ p ty ok names o))
    ∙ image_back o (renamed_pool ρ p) (typed_still ρ p ty ok names) (sound_still ρ p ty ok names)

-- what is one_to_one on the pages of pool and trace is so on the pool's
names_fewer : (ρ : ℕ → ℕ) (xs ys : List ℕ) → Renames ρ (xs ++ ys) → Renames ρ ys
names_fewer ρ xs ys names = record {
  one_to_one = λ a b x y e. names.one_to_one a b (among_second xs ys a x) (among_second xs ys b y) e;
  four_bytes = λ a x. names.four_bytes a (among_second xs ys a x);
}

pub image_alike : ImageDemand
image_alike ρ m s t bm bs z accepted names o =
    let p = (image_of m).pool in
    let ty = read_typed m (bytes_of_lem m bm) z in
    let loaded = loaded_alike ρ m bm z (names_fewer ρ (trace_of s).pages (resident_pages p.frames) names) in
    let given : Given p s = record { stored = record { bytes = bs; frames = ty.frames; access = ty.access; write = ty.write }; sound = read_sound m (bytes_of_lem m bm) z; accepted = accepted } in
    let pool : (image_of (renamed_image ρ m)).pool ≡ renamed_pool ρ p = ap (λ (a : Opened). a.pool) loaded in
    record {
      loaded = ap (λ (a : Opened). a.refusal) loaded;
      replayed = ap (λ (q : Pool). replay_of q t (trace_of (renamed_bytes ρ o s))) pool ∙ (only_sameness ρ p t s given names).replayed o;
      replay = λ rows written e rows' written' x. replay_alike ρ p t s given names o rows written e rows' written' (rw pool at x);
      counts = ap (λ (q : Pool). counts_of q t (renamed_bytes ρ o s)) pool ∙ counts_alike ρ p t s given names o;
    }

pub step_from_image : StepFromImage
step_from_image ρ m t page kind bm z names list e list' x =
    let p = (image_of m).pool in
    let loaded = loaded_alike ρ m bm z (names_fewer ρ (page ∷ []) (resident_pages p.frames) names) in
    let pool : (image_of (renamed_image ρ m)).pool ≡ renamed_pool ρ p = ap (λ (a : Opened). a.pool) loaded in
    step_alike ρ p t page kind (read_sound m (bytes_of_lem m bm) z) names list e list' (rw pool at x)
