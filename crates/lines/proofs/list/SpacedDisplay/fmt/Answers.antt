use Rattle.std.proofs.Common.{◌≡◌, ℕ, ◌+◌, List, [], ◌∷◌, ◌++◌, take, refl, arith, Ok, IsOk}
use Rattle.std.proofs.lemmas.List.{take_more}
use Rattle.std.proofs.Output.{has_written_append}
use Rattle.std.specs.Prelude.{Option, Some, None, Result}
use Rattle.std.specs.Option.{IfSome}
use Rattle.std.specs.Fmt.{◌++?◌, HasWritten, DisplaysOnOk}
use Rattle.std.specs.declared.fmt.Error.{Error}
use Rattle.std.specs.declared.fmt.Formatter.{Formatter}
use Rattle.lines.specs.Spaced.{spaced_behind, spaced}
use Rattle.lines.proofs.list.SpacedDisplay.fmt.Goals as goal

-- the text of a list with one item more
behind_more : {T : Type 0} → (output : T → Option (List ℕ)) (before : Option (List ℕ)) (xs : List T) (x : T) → spaced_behind output before (xs ++ x ∷ []) ≡ spaced_behind output before xs ++? (Some (32 ∷ []) ++? output x)
behind_more output before [] x = refl
behind_more output before (y ∷ ys) x = behind_more output (before ++? (Some (32 ∷ []) ++? output y)) ys x

-- what is written behind what was written
joined : {W : Type 0} → (took : W → List ℕ → W → Type 0) (f g h : Formatter W) (r : Result (Unit {0}) Error) (o t : Option (List ℕ)) → IfSome o (λ bs. HasWritten took f bs g) → DisplaysOnOk took g r t h → IsOk r → IfSome (o ++? t) (λ bs. HasWritten took f bs h)
joined took f g h r (Some a) (Some b) w v k = has_written_append took f a g b h w (v w.plain k)
joined took f g h r (Some a) None w v k = tt
joined took f g h r None t w v k = tt

pub loop-item-preserved : goal.loop-item-preserved
loop-item-preserved g c p =
    let output = g.T.Display.output in
    let items = c.args.self.now.0.now in
    let i = c.loop-item.item-index in
    let more : spaced output (take (i + 1) items) ≡ spaced output (take i items) ++? (Some (32 ∷ []) ++? output c.item-item.result) =
    rw (take_more items i c.item-item.result (omega arith), ← c.item-item.is) (behind_more output (Some []) (take i items) c.item-item.result) in
    rw more (joined g.W.Write.write_str_gives c.args.f.now c.loop-item.f c.write.new.self (Ok c.in_ok-write.field-0) (spaced output (take i items)) (Some (32 ∷ []) ++? output c.item-item.result) (c.loop-item.invariant p) c.in_ok-write.ensures.writes refl)
