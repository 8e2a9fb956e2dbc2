-- One part of a call after another: what holds of both.
use Rattle.std.proofs.Common.{◌≡◌, List, [], ◌∙◌, rules}
use Rattle.asit_shadow.proofs.Common.{Some, IfSome, is_some, Line, Setup, Outcome, going, cut_short, shown, power_chained, told_cases, unarmed, TreeEngineParts, tree_lines_redone, KeepsNodes, KeepsTreePlaces, TreeCallEffect}

nodes-then : (setup : Setup) (outcome : Outcome) (old mid new : TreeEngineParts) → KeepsNodes setup going old mid → KeepsNodes setup outcome mid new → KeepsNodes setup outcome old new
nodes-then setup going old mid new first second = λ x inside it. second x inside (first x inside it)
nodes-then setup cut_short old mid new first second = λ x inside it. second x inside (first x inside it)
nodes-then setup shown old mid new first second = second

pub places-then : (setup : Setup) (outcome : Outcome) (old mid new : TreeEngineParts) → KeepsTreePlaces setup going old mid → KeepsTreePlaces setup outcome mid new → KeepsTreePlaces setup outcome old new
places-then setup outcome old mid new first second = search (rules, nodes-then)

pub effect-then : (setup : Setup) (outcome : Outcome) (old mid new : TreeEngineParts) → TreeCallEffect setup going old mid → TreeCallEffect setup outcome mid new → TreeCallEffect setup outcome old new
effect-then setup outcome old mid new first second =
    record {
      shape = second.shape ∙ first.shape;
      size = second.size ∙ first.size;
      power = power_chained outcome old.device mid.device new.device first.power second.power;
      trusted = λ was. second.trusted (first.trusted was);
      sound = λ was. second.sound (first.sound was);
      places = λ was. places-then setup outcome old mid new (first.places was) (second.places (first.trusted was));
    }

-- with no group armed before and after, what holds of lines that are told gives what holds of those
-- that are told then
pub held-told : (P Q : List Line → Type 0) (old new : TreeEngineParts) → old.device.regs.group.items ≡ [] → new.device.regs.group.items ≡ [] → is_some new.device.lines ≡ is_some old.device.lines
    → ((lines then : List Line) → old.device.lines ≡ Some lines → new.device.lines ≡ Some then → P lines → Q then) → IfSome (tree_lines_redone old) P → IfSome (tree_lines_redone new) Q
held-told P Q old new before after same give it = search (rules, unarmed, told_cases)

pub told-of : (P : List Line → Type 0) (parts : TreeEngineParts) → parts.device.regs.group.items ≡ [] → IfSome (tree_lines_redone parts) P → IfSome parts.device.lines P
told-of P parts none it = search (rules, unarmed)
