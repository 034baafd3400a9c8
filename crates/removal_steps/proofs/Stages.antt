-- What a step leaves is what the next one asks for.
use Rattle.std.proofs.Common.{◌≡◌, ◌≢◌, inl, inr, ℕ, ◌<◌, List, slice_index, Some, None, ap, ◌∙◌, arith}
use Rattle.std.specs.Prelude.{Option}
use Rattle.std.proofs.lemmas.List.Elements.{Contains-get_or}
use Rattle.layout.specs.declared.fields.DescriptorFields.{DescriptorFields}
use Rattle.layout.specs.Geometry.{descriptor_word_of}
use Rattle.layout.proofs.GeometryLaws.{same_descriptor_word}
use Rattle.layout.specs.Fields.{word, page_owner, page_kind, page_offset}
use Rattle.page_state.specs.Page.{descriptor_of}
use Rattle.page_state.proofs.PageLaws.{same_descriptor_fields}
use Rattle.image_laws.specs.Drop.{GivesPages}
use Rattle.removal_steps.specs.Steps.{AreFilePages, IsEmptied, MayEmpty, WereFilePages, WasEmptied, MayBeEmptied, IsCut}

module _ (P : ℕ) (I J pages : List ℕ) (emptied : Option ℕ) (gives : GivesPages P I J (IsCut pages emptied)) where
  -- only owners change
  pub rest_stays : (page field : ℕ) → field < 8 → field ≢ 0 → word J (descriptor_word_of P page field) ≡ word I (descriptor_word_of P page field)
  rest_stays page field few some = gives.others (descriptor_word_of P page field) (λ other cut same. some (same_descriptor_word P page other field 0 few (omega arith) same).1)

  pub were_file_pages : (inode : ℕ) → AreFilePages P I inode pages → WereFilePages P J pages
  unfolding page_owner page_kind page_offset
  were_file_pages inode file = record {
    in_range = file.in_range;
    distinct = file.distinct;
    each = λ k inside.
        let page = slice_index pages k in
        same_descriptor_fields (descriptor_of P J page) (record { owner = 0; kind = 1; offset = k })
        (gives.owners page (inl (Contains-get_or pages k 0 inside)))
        (rest_stays page 1 (omega arith) (λ same. omega (arith, same)) ∙ ap (λ (d : DescriptorFields). d.kind) (file.each k inside))
        (rest_stays page 2 (omega arith) (λ same. omega (arith, same)) ∙ ap (λ (d : DescriptorFields). d.offset) (file.each k inside));
  }

  was_emptied : (page : ℕ) → emptied ≡ Some page → IsEmptied P I page → WasEmptied P J page
  unfolding page_owner page_kind
  was_emptied page is before = record {
    in_range = before.in_range;
    owner = gives.owners page (inr is);
    kind = rest_stays page 1 (omega arith) (λ same. omega (arith, same)) ∙ before.kind;
  }

  pub may_be_emptied : (e : Option ℕ) → emptied ≡ e → MayEmpty P I e → MayBeEmptied P J e
  may_be_emptied None is before = tt
  may_be_emptied (Some page) is before = was_emptied page is before
