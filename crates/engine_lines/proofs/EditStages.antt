-- How far a list of changes has come: the lines after the first k of them, wherever it ends.
use Rattle.std.proofs.Common.{ℕ, suc, ◌≡◌, ◌<◌, ◌≤◌, ◌+◌, ◌^◌, ◌⊎◌, inl, inr, List, [], ◌∷◌, ◌++◌, length, take, Err, refl, ap, subst, ◌∙◌, arith}
use Rattle.std.proofs.lemmas.Bool.{cases_lt}
use Rattle.std.proofs.lemmas.List.{take-append-le, take_all, length-append}
use Rattle.pmem_base.specs.declared.lines.Line.{Line}
use Rattle.pmem_base.specs.Layout.{data_lines}
use Rattle.suite.specs.Setup.{Setup}
use Rattle.pmem_engine.specs.declared.fault.Fault.{Fault}
use Rattle.pmem_engine.specs.declared.fault.Fault.TheVariants as Fail
use Rattle.pmem_engine.specs.Parts.{Parts}
use Rattle.engine_lines.specs.declared.edits.Edit.{Edit}
use Rattle.engine_lines.specs.Lines.{HasLines, IsUnspent}
use Rattle.engine_lines.specs.Edits.{edited, all_edited}
use Rattle.engine_lines.proofs.EditLaws.{LeavesLines, StopsAt}

-- ---- changes with a last one

pub all_edited-append : (edits more : List Edit) (lines : List Line) → all_edited (edits ++ more) lines ≡ all_edited more (all_edited edits lines)
all_edited-append [] more lines = refl
all_edited-append (edit ∷ edits) more lines = all_edited-append edits more (edited edit lines)

pub after_last : (edits : List Edit) (last : Edit) (lines : List Line) → all_edited (edits ++ last ∷ []) lines ≡ edited last (all_edited edits lines)
after_last edits last lines = all_edited-append edits (last ∷ []) lines

-- a fault leaves the lines before the change, or, if no line is spent, those after it
pub leaves_cases : (setup : Setup) (fault : Fault) (before after : List Line) (new : Parts)
    → LeavesLines setup (Err fault) before after new → HasLines setup before new ⊎ (IsUnspent fault × HasLines setup after new)
leaves_cases setup (Fail.Spent page) before after new it = inl it
leaves_cases setup Fail.Cut before after new it = elim it [ inl same ↦ inl same | inr put ↦ inr (tt, put) ]
leaves_cases setup Fail.Down before after new it = elim it [ inl same ↦ inl same | inr put ↦ inr (tt, put) ]
leaves_cases setup (Fail.Meta x) before after new it = elim it [ inl same ↦ inl same | inr put ↦ inr (tt, put) ]
leaves_cases setup (Fail.Tag at) before after new it = elim it [ inl same ↦ inl same | inr put ↦ inr (tt, put) ]
leaves_cases setup Fail.Shown before after new it = elim it [ inl same ↦ inl same | inr put ↦ inr (tt, put) ]

-- some of the changes before the last one are made, or all of these, or the last one too if no line is spent
pub record StopsEditsBy (setup : Setup) (edits : List Edit) (last : Edit) (lines : List Line) (new : Parts) (fault : Fault) : Type 0 where
  pub k : ℕ
  pub within : k ≤ length edits
  pub left :
      HasLines setup (all_edited (take k edits) lines) new
      ⊎ ((k ≡ length edits) × IsUnspent fault × HasLines setup (edited last (all_edited edits lines)) new)

pub stops_by : (setup : Setup) (few : data_lines setup.shape ≤ 2 ^ 32) (edits : List Edit) (last : Edit) (lines : List Line) (new : Parts) (fault : Fault)
    → StopsAt setup few (edits ++ last ∷ []) lines new fault → StopsEditsBy setup edits last lines new fault
stops_by setup few edits last lines new fault it =
    elim (leaves_cases setup fault _ _ new it.left) [
      | inl same ↦
          record {
            k = it.k;
            within = within;
            left = inl (subst (λ es. HasLines setup (all_edited es lines) new) (front it.k within) same);
          }
      | inr put ↦ next (cases_lt it.k (length edits)) put
    ]
  where
    long : length (edits ++ last ∷ []) ≡ length edits + 1
    long = length-append edits (last ∷ [])

    within : it.k ≤ length edits
    within = let inside = it.inside in omega (arith, inside, long)

    front : (k : ℕ) → k ≤ length edits → take k (edits ++ last ∷ []) ≡ take k edits
    front k few = take-append-le k edits (last ∷ []) few

    next : (it.k < length edits) ⊎ (length edits ≤ it.k) → IsUnspent fault × HasLines setup (all_edited (take (suc it.k) (edits ++ last ∷ [])) lines) new
        → StopsEditsBy setup edits last lines new fault
    next (inl early) put =
        record {
          k = suc it.k;
          within = omega (arith, early);
          left = inl (subst (λ es. HasLines setup (all_edited es lines) new) (front (suc it.k) (omega (arith, early))) put.1);
        }
    next (inr late) put =
        let all : take (suc it.k) (edits ++ last ∷ []) ≡ edits ++ last ∷ [] = take_all (suc it.k) (edits ++ last ∷ []) (omega (arith, late, long)) in
        record {
          k = it.k;
          within = within;
          left =
              inr (
                omega (arith, late, within),
                put.0,
                subst (λ ls. HasLines setup ls new) (ap (λ es. all_edited es lines) all ∙ after_last edits last lines) put.1,
              );
        }
