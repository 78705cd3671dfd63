-- A contract of several clauses, from one lemma whose conclusion is all of them.
-- Assumes nothing.

pub two : {A B R : Type 0} → (A → B → R) → A × B → R
two f x = f x.0 x.1

pub three : {A B C R : Type 0} → (A → B → C → R) → A × (B × C) → R
three f x = f x.0 x.1.0 x.1.1

pub four : {A B C D R : Type 0} → (A → B → C → D → R) → A × (B × (C × D)) → R
four f x = f x.0 x.1.0 x.1.1.0 x.1.1.1

pub five : {A B C D E R : Type 0} → (A → B → C → D → E → R) → A × (B × (C × (D × E))) → R
five f x = f x.0 x.1.0 x.1.1.0 x.1.1.1.0 x.1.1.1.1

pub six : {A B C D E F R : Type 0} → (A → B → C → D → E → F → R) → A × (B × (C × (D × (E × F)))) → R
six f x = f x.0 x.1.0 x.1.1.0 x.1.1.1.0 x.1.1.1.1.0 x.1.1.1.1.1
