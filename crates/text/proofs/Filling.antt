-- Lent lists filled from the front by what lines give.
use mathlib.Core.Path.{◌≡◌, refl, sym, ap, ◌∙◌}
use mathlib.Core.List.{List, [], ◌∷◌, ◌++◌, append-nil, append_assoc}
use Prim.Native.Nat.{ℕ, ◌+◌, ◌≤◌}
use native.Mathlib.Omega.{arith}
use native.Mathlib.Nat.{zero-add}
use lib.ListN.{length, length-append}
use lib.Seq.{sets, length-sets}
use Rattle.word.proofs.Laws.{sets_append}
use Rattle.text.specs.declared.Line.{Line}
use Rattle.text.specs.declared.Line.TheVariants.{Passed, Record, Bad}
use Rattle.text.specs.Text.{page_of, kind_of, numbers_in}

-- a list with what the lines before the rest give at its front, n numbers
pub record Filled (f : Line → List ℕ) (all rest : List Line) (l₀ l : List ℕ) (n : ℕ) : Type 0 where
  pub done : List ℕ
  pub long : length done ≡ n
  pub whole : numbers_in f all ≡ done ++ numbers_in f rest
  pub holds : l ≡ sets l₀ 0 done

pub filled_long : {f : Line → List ℕ} {all rest : List Line} {l₀ l : List ℕ} {n : ℕ} → Filled f all rest l₀ l n → length l ≡ length l₀
filled_long {l₀ = l₀} d = ap length d.holds ∙ length-sets l₀ 0 d.done

module _ (f : Line → List ℕ) (all rest : List Line) (l₀ : List ℕ) where
  pub filled_none : Filled f all all l₀ l₀ 0
  filled_none = record { done = []; long = refl; whole = refl; holds = refl }

  pub filled_more : (lines : List Line) (line : Line) (l l' : List ℕ) (n m : ℕ) → lines ≡ line ∷ rest → Filled f all lines l₀ l n → l' ≡ sets l n (f line) → m ≡ n + length (f line)
      → Filled f all rest l₀ l' m
  unfolding numbers_in
  filled_more lines line l l' n m e d s k = record {
    done = d.done ++ f line;
    long = length-append d.done (f line) ∙ rw d.long (sym k);
    whole = d.whole ∙ rw e (sym (append_assoc d.done (f line) (numbers_in f rest)));
    holds = s ∙ rw d.holds (sym (sets_append d.done (f line) l₀ 0 ∙ rw (d.long, zero-add)));
  }

  -- there is room for the next line where there is for all
  pub filled_room : (lines : List Line) (line : Line) (l : List ℕ) (n : ℕ) → lines ≡ line ∷ rest → Filled f all lines l₀ l n → length (numbers_in f all) ≤ length l₀
      → n + length (f line) ≤ length l
  unfolding numbers_in
  filled_room lines line l n e d room =
      let whole : length (numbers_in f all) ≡ n + (length (f line) + length (numbers_in f rest)) =
      ap length d.whole ∙ length-append d.done (numbers_in f lines) ∙ rw (d.long, e, length-append (f line) (numbers_in f rest)) in
      let same : length l ≡ length l₀ = filled_long d in
      omega arith

pub filled_all : (f : Line → List ℕ) (all : List Line) (l₀ l : List ℕ) (n : ℕ) → Filled f all [] l₀ l n → l ≡ sets l₀ 0 (numbers_in f all)
unfolding numbers_in
filled_all f all l₀ l n d = d.holds ∙ ap (λ (x : List ℕ). sets l₀ 0 x) (sym (append-nil d.done) ∙ sym d.whole)

-- a line gives as many kinds as pages
pub as_many : (line : Line) → length (page_of line) ≡ length (kind_of line)
as_many Passed = refl
as_many (Record kind page) = refl
as_many Bad = refl

pub numbers_many : (lines : List Line) → length (numbers_in page_of lines) ≡ length (numbers_in kind_of lines)
unfolding numbers_in
numbers_many [] = refl
numbers_many (line ∷ lines) =
    let rest = numbers_many lines in
    let one = as_many line in
    length-append (page_of line) (numbers_in page_of lines) ∙ rw (one, rest) (sym (length-append (kind_of line) (numbers_in kind_of lines)))
