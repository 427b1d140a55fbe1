mod Computing
mod Tags
mod Attributes
mod Urls
mod Texts
mod Standing
mod Pages
