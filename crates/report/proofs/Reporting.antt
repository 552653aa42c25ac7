-- The report of an input, by what it decodes to. Assumes nothing.
use Rattle.std.specs.Prelude.{Err, Ok}
use Prim.Native.Nat.{ℕ}
use mathlib.Core.Path.{◌≡◌, refl, ap, ◌∙◌, subst}
use mathlib.Core.List.{List}
use lib.Ieee.{Float}
use lib.ListN.{take, replicate}
use Rattle.refusals.specs.declared.Refusal.{Refusal}
use Rattle.floats.specs.Ops.{zero}
use Rattle.lists.specs.Lists.{keep}
use Rattle.lists.specs.Rows.{over}
use Rattle.lists.proofs.Tests.{said}
use Rattle.length_signs.specs.declared.LengthSigns.{LengthSigns}
use Rattle.length_signs.specs.LengthSigns.{signs_of}
use Rattle.complex.specs.declared.Counts.{Counts}
use Rattle.complex.specs.Builder.{Built}
use Rattle.complex.specs.Builder.{Lists}
use Rattle.comparison.proofs.BuiltComplex.{built-says}
use Rattle.hinges.specs.Hinges.{FaceLists, built_faces, faces_in}
use Rattle.calls.proofs.BuiltCalls.{built-faces}
use Rattle.packed_input.specs.Format.{sq_lengths_in}
use Rattle.packed_input.specs.Decoding.{decoded_of, Decodes}
use Rattle.packed_input.proofs.DecodedComplex.{decoded-built, decoded-pents, decoded-lengths}
use Rattle.report.specs.Report.{Evaluates, faces_of, Reports}

-- a refused input has no signs, hinges and gradient
pub refused_reports : (input : List ℕ) (r : Refusal) → Err r ≡ decoded_of input
    → Reports input (Err r) (record { timelike = 0; null = 0; spacelike = 0 }) (replicate 640 zero) (replicate 640 0) (replicate 640 zero)
unfolding over signs_of keep
refused_reports input r e = record { answered = e; signs = refl; deficits = refl; kinds = refl; gradient = refl }

-- an input that decodes to an answer of counts
pub decodes-to : (input : List ℕ) (r : Built) (c : Counts) (l : Lists) (ls : List Float) → r ≡ Ok c → Decodes input r l ls → Decodes input (Ok c) l ls
decodes-to input r c l ls e d = subst (λ (b : Built). Decodes input b l ls) e d

-- what is worked out of the lists that an input decodes to is worked out of its own complex and lengths
module _ (input : List ℕ) (c : Counts) (l : Lists) (ls : List Float) (d : Decodes input (Ok c) l ls) where
  faces-are : faces_in c l.pents l.edges l.triangles ≡ faces_of input
  faces-are = built-faces c l (said (built-says c l) (decoded-built input c l ls d)) ∙ ap built_faces (decoded-pents input c l ls d)

  pub done_reports : (s : LengthSigns) (ds : List Float) (ks : List ℕ) (gs : List Float)
      → Evaluates (faces_in c l.pents l.edges l.triangles) (take c.edges ls) (replicate 640 zero) (replicate 640 0) (replicate 640 zero) s ds ks gs
      → Reports input (Ok c) s ds ks gs
  done_reports s ds ks gs v =
      let w : Evaluates (faces_of input) (sq_lengths_in input c.pentachorons c.edges) (replicate 640 zero) (replicate 640 0) (replicate 640 zero) s ds ks gs =
      subst (λ (p : FaceLists × List Float). Evaluates p.0 p.1 (replicate 640 zero) (replicate 640 0) (replicate 640 zero) s ds ks gs)
      (λ i. (faces-are i, decoded-lengths input c l ls d i)) v in
      record { answered = d.answered; signs = w.signs; deficits = w.deficits; kinds = w.kinds; gradient = w.gradient }
