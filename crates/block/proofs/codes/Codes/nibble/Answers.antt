-- `block::Codes::nibble` meets its contract. Assumes nothing.
use mathlib.Core.Path.{◌≡◌, ap, ◌∙◌}
use Prim.Native.Nat.{ℕ, ◌-◌, ◌*◌, ◌/◌, ◌%◌, ◌^◌, min}
use Rattle.code.specs.Parts.{OfDims}
use Rattle.block.proofs.PackLaws.{nibble_of}
use Rattle.block.proofs.codes.Codes.nibble.Goals as goal

pub returns : goal.returns
returns c =
    let g = c.args.g in
    let s = c.args.self.now in
    let dims : c.self.inside.dims ≡ s.dims = ap (λ (s : OfDims). s.dims) c.self.view_is in (
      c.half.ensures.0
          ∙ ap (λ (x : ℕ). x / 16 ^ (g % 2) % 16) (c.cleared.ensures ∙ ap (λ (n : ℕ). c.byte.result % 2 ^ min 8 (n - 8 * (g / 2))) dims)
          ∙ nibble_of s.dims s.bytes g c.args.k _ c.byte.ensures,
      c.half.ensures.1,
    )
