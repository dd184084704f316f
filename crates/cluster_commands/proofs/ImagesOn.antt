-- Images, one after the other.
use Rattle.std.proofs.Common.{◌≡◌, ◌∙◌, sym, ap, refl, ℕ, ◌+◌, ◌<◌, List, [], ◌∷◌, ◌++◌, length, map, get_or, drop}
use Rattle.std.proofs.Common.{append_assoc, Result, Ok, Err}
use Rattle.pisa_cluster.specs.pisa_isa.Image.{Segments}
use Rattle.pisa_cluster.specs.pisa_isa.Notes.{NotedImage}
use Rattle.command_plan.specs.pisa_image.declared.error.ImageError.{ImageError}
use Rattle.command_plan.specs.pisa_image.Reading.{image_at}
use Rattle.cluster_commands.specs.ClusterPlans.{images_at}
use Rattle.std.proofs.lemmas.List.{drop_more}
use Rattle.command_plan.specs.pisa_image.Numbers.{◌>>=◌}

-- images before what is read
abbrev pub with_front : List Segments → Result (List Segments) ImageError → Result (List Segments) ImageError
with_front front (Ok images) = Ok (front ++ images)
with_front front (Err e) = Err e

with_next : (front : List Segments) (n : NotedImage) (rest : Result (List Segments) ImageError)
    → with_front front (rest >>= λ images. Ok (n.image ∷ images)) ≡ with_front (front ++ n.image ∷ []) rest
with_next front n (Ok images) = ap Ok (sym (append_assoc front (n.image ∷ []) images))
with_next front n (Err e) = refl

pub image_read : {A : Type 0} (f : A → List ℕ) (items : List A) (i : ℕ) (d : A) (front : List Segments) (n : NotedImage)
    (image : Segments)
    (total : Result (List Segments) ImageError) → i < length items → image_at (f (get_or items i d)) ≡ Ok n
    → image ≡ n.image
    → with_front front (images_at (map f (drop i items))) ≡ total
    → with_front (front ++ image ∷ []) (images_at (map f (drop (i + 1) items))) ≡ total
image_read f items i d front n image total lt is same so_far =
    ap (λ m. with_front (front ++ m ∷ []) (images_at (map f (drop (i + 1) items)))) same
    ∙ sym (with_next front n (images_at (map f (drop (i + 1) items))))
    ∙ ap (λ (r : Result NotedImage ImageError). with_front front (r >>= λ noted.
    images_at (map f (drop (i + 1) items)) >>= λ images. Ok (noted.image ∷ images))) (sym is)
    ∙ ap (λ ts. with_front front (images_at ts)) (sym (ap (map f) (drop_more items i d lt))) ∙ so_far
