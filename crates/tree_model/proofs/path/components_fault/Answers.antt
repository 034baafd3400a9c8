use Rattle.std.proofs.Common.{Some, ap, sym, ◌∙◌}
use Rattle.layout.specs.declared.name.NameFault.{NameFault}
use Rattle.tree_model.specs.PathText.{names_of, component_name}
use Rattle.tree_model.specs.PathScan.{components_from, fault_in, fault_with}
use Rattle.tree_model.proofs.PathLaws.{behind_name, behind_long, with_long}
use Rattle.tree_model.proofs.path.components_fault.Goals as goal

pub loop-left-preserved-in-None : goal.loop-left-preserved-in-None
loop-left-preserved-in-None c =
    let names = names_of (components_from c.split_component.result.1) in
    c.loop-left.invariant ∙ ap (λ left. fault_with c.loop-left.long (fault_in (names_of (components_from left)))) c.in-Some.is
    ∙ ap (λ components. fault_with c.loop-left.long (fault_in (names_of components))) c.split_component.ensures.parts
    ∙ ap (fault_with c.loop-left.long) (behind_name (component_name c.split_component.result.0.text.now) names (sym c.component_fault.ensures ∙ c.in-None.is))

pub loop-left-preserved : goal.loop-left-preserved
loop-left-preserved c =
    let names = names_of (components_from c.split_component.result.1) in
    c.loop-left.invariant ∙ ap (λ left. fault_with c.loop-left.long (fault_in (names_of (components_from left)))) c.in-Some.is
    ∙ ap (λ components. fault_with c.loop-left.long (fault_in (names_of components))) c.split_component.ensures.parts
    ∙ ap (fault_with c.loop-left.long) (behind_long (component_name c.split_component.result.0.text.now) names (sym c.component_fault.ensures ∙ c.in-Some-TooLong.is ∙ ap (λ (fault : NameFault). Some fault) c.in-Some-TooLong.field-0-is))
    ∙ with_long c.loop-left.long (fault_in names)
